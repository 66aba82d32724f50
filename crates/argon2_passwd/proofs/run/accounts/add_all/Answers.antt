use Rattle.argon2_passwd.proofs.Common.{AccountFile, ap, arith, common_steps, Failure, file_failure, FileError, Ghosts, List, refl, rules, ℕ, ◌+◌, ◌≡◌, ◌≢◌}
use Rattle.argon2_passwd.specs.Answers.{FailsToAdd}
use Rattle.argon2_store.specs.declared.error.FileError.TheVariants.{NameTaken, NameUnknown, Changed, Locked, OutOfMemory, Io, Damaged, Full, TooLong, Closed}
use Rattle.argon2_passwd.specs.declared.failure.Failure.TheVariants.{Line}
use Rattle.argon2_passwd.specs.declared.failure.Flaw.TheVariants.{Taken}
use Rattle.argon2_passwd.proofs.run.accounts.add_all.Goals as goal

-- an error of the file other than a taken name fails to add the entries
module _ {S : Type 0} {g : Ghosts S} (es : List (List ℕ × List ℕ)) (failure : Failure) (before after : AccountFile S g) where
  file_failure_fails_to_add : (e : FileError) → e ≢ NameTaken → failure ≡ file_failure e → FailsToAdd e es failure before after
  file_failure_fails_to_add NameTaken isnt is = absurd (isnt refl)
  file_failure_fails_to_add NameUnknown isnt is = is
  file_failure_fails_to_add Changed isnt is = is
  file_failure_fails_to_add Locked isnt is = is
  file_failure_fails_to_add OutOfMemory isnt is = is
  file_failure_fails_to_add Io isnt is = is
  file_failure_fails_to_add Damaged isnt is = is
  file_failure_fails_to_add Full isnt is = is
  file_failure_fails_to_add TooLong isnt is = is
  file_failure_fails_to_add Closed isnt is = is

pub returns-in-NameTaken : goal.returns-in-NameTaken
returns-in-NameTaken g c = (
  NameTaken,
  rw c.in-NameTaken.is at c.in-Err.ensures.call,
  λ names has honest.
      let first = rw c.in-NameTaken.is at c.in-Err.ensures.index names has honest in
      let next : c.saturating_add.result ≡ c.in-Err.index + 1 = grind (arith, rules, common_steps) in
      (c.in-Err.index, ap (λ n. Line n Taken) next, first),
)

pub returns-in_default : goal.returns-in_default
returns-in_default g c = (
  c.in-Err.error,
  c.in-Err.ensures.call,
  file_failure_fails_to_add _ c.into.result _ _ c.in-Err.error c.in_default.not-NameTaken c.into.ensures,
)
