-- Why a password is not accepted, as callers see it.
use Rattle.std.specs.Prelude.{ℕ, ◌++◌, Bool, true, false, List, codes}
use Rattle.argon2_base.specs.Error.{hash_error_text}
use Rattle.argon2_base.specs.declared.error.password_hash.Error.TheVariants.{PasswordInvalid}
use Rattle.argon2.specs.declared.bound.BoundError.{BoundError}
use Rattle.argon2.specs.declared.bound.BoundError.TheVariants as bound
use Rattle.argon2_schemes.specs.Schemes.{scheme_name}
pub use Rattle.argon2_policy.specs.declared.denial.Denial.{Denial}
pub use Rattle.argon2_policy.specs.declared.denial.Denial.TheVariants.{NameUnknown, Locked, OtherScheme, TooExpensive, Refused}

-- the name or the password is wrong
abbrev pub is_wrong : Denial → Bool
is_wrong NameUnknown = true
is_wrong Locked = true
is_wrong (Refused PasswordInvalid) = true
is_wrong _ = false

-- the denial that an error of a bound becomes
abbrev pub of_bound : BoundError → Denial
of_bound bound.TooExpensive = TooExpensive
of_bound (bound.Refused e) = Refused e

-- what a denial prints
abbrev pub denial_text : Denial → List ℕ
denial_text NameUnknown = codes "name is unknown"
denial_text Locked = codes "name is locked"
denial_text (OtherScheme scheme) = scheme_name scheme ++ codes ", not Argon2"
denial_text TooExpensive = codes "costs are above the bound"
denial_text (Refused e) = hash_error_text e
