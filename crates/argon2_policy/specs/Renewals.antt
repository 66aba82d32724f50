-- What an accepted login does with the text that is stored.
use Rattle.std.specs.Prelude.{Option, Some, None, Result, Ok, Err}
use Rattle.argon2_base.specs.declared.phc.hash.PasswordHash.{PasswordHash}
use Rattle.argon2.specs.declared.login.answers.Accepted.{Accepted}
use Rattle.argon2.specs.declared.login.answers.Accepted.TheVariants.{Current, Kept, Rehashed}
use Rattle.argon2_policy.specs.declared.login.LoggedIn.{LoggedIn}
use Rattle.argon2_policy.specs.declared.login.LoggedIn.TheVariants as login
use Rattle.argon2_policy.specs.declared.login.Renewal.{Renewal}

-- the answer of a login whose fresh text, if it has one, is stored
abbrev pub accepted_of : LoggedIn → Accepted
accepted_of login.Current = Current
accepted_of (login.Renewed renewal) = Rehashed
accepted_of login.Kept = Kept

-- the same for a login that may be refused
abbrev pub accepted_by : {E : Type 0} → Result LoggedIn E → Result Accepted E
accepted_by (Ok done) = Ok (accepted_of done)
accepted_by (Err e) = Err e

-- the fresh text and the text that it replaces, if the text is renewed
abbrev pub renewal_of : LoggedIn → Option Renewal
renewal_of login.Current = None
renewal_of (login.Renewed renewal) = Some renewal
renewal_of login.Kept = None

-- the fresh text, if the text is renewed
abbrev pub fresh_of : LoggedIn → Option PasswordHash
fresh_of login.Current = None
fresh_of (login.Renewed renewal) = Some renewal.fresh
fresh_of login.Kept = None
