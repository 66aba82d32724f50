use Rattle.argon2_passwd.proofs.Common.{err_is}
use Rattle.argon2_passwd.proofs.AskingLemmas.{two_writes_append, no_new_after_old}
use Rattle.argon2_passwd.proofs.asking.ask.Goals as goal

pub returns-in_err-password-in-OldAndNewPassword-clause-failed :
    goal.returns-in_err-password-in-OldAndNewPassword-clause-failed
returns-in_err-password-in-OldAndNewPassword-clause-failed g c =
    let why = no_new_after_old _ _ _ _ c.in_ok-lines-in-OldAndNewPassword.ensures.taken
    c.in_ok-lines-in-OldAndNewPassword.ensures.rest c.in_err-password-in-OldAndNewPassword.ensures.failed in
    rw (c.in-OldAndNewPassword.is, err_is _ _ c.from_residual-in_err-password-in-OldAndNewPassword.ensures.1) why

pub returns-in-Password-clause-asked : goal.returns-in-Password-clause-asked
returns-in-Password-clause-asked g c = rw c.in-Password.is c.ask_line.ensures.asked

pub returns-in_ok-extend_from_slice-in-TextAndPassword-clause-asked :
    goal.returns-in_ok-extend_from_slice-in-TextAndPassword-clause-asked
returns-in_ok-extend_from_slice-in-TextAndPassword-clause-asked g c =
    rw c.in-TextAndPassword.is (two_writes_append _ _ _ _ _ c.in_ok-lines-in-TextAndPassword.ensures.asked
    c.in_ok-password-in-TextAndPassword.ensures.asked)

pub returns-in_ok-extend_from_slice-in-OldAndNewPassword-clause-asked :
    goal.returns-in_ok-extend_from_slice-in-OldAndNewPassword-clause-asked
returns-in_ok-extend_from_slice-in-OldAndNewPassword-clause-asked g c =
    rw c.in-OldAndNewPassword.is (two_writes_append _ _ _ _ _ c.in_ok-lines-in-OldAndNewPassword.ensures.asked
    c.in_ok-password-in-OldAndNewPassword.ensures.asked)
