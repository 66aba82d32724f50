use Rattle.argon2_passwd.proofs.Common.{[], inl, unwritten_keeps, file_was_used, refl}
use Rattle.argon2_passwd.proofs.run.accounts.check_file.Goals as goal

pub returns : goal.returns
returns g c input output =
    let closed = rw c.into_store.ensures at c.close.ensures [] _ _ (c.in_ok-accounts.ensures.opened [] c.requires) in
    inl (unwritten_keeps _, refl, file_was_used _ _ c.in_ok-accounts.ensures.ok refl closed)
