-- What passwords are stored under, and what their texts answer.
use Rattle.std.specs.Prelude.{◌≢◌, ℕ, List, [], Bool, true, false, Result, Ok, Err}
use Rattle.argon2.specs.Argon2.{argon2id_with}
use Rattle.argon2.specs.TextHashing.{TargetValue}
use Rattle.argon2.specs.Settings.{default_parameters}
use Rattle.argon2.specs.StoredTexts.{IsVerifyTextAnswer}
use Rattle.argon2.specs.base_declared.error.password_hash.Error.{Error}
use Rattle.argon2.specs.base_declared.error.password_hash.Error.TheVariants.{PasswordInvalid}

-- Argon2id of version 0x13 with the default parameters and no secret
abbrev pub default_target : TargetValue
default_target = record { settings = argon2id_with default_parameters; secret = [] }

-- what verifying a text may answer. A wrong password is no error here.
abbrev pub IsAcceptedAnswer : List ℕ → List ℕ → Result Bool Error → Type 0
IsAcceptedAnswer password text (Ok true) = IsVerifyTextAnswer [] password text (Ok tt)
IsAcceptedAnswer password text (Ok false) = IsVerifyTextAnswer [] password text (Err PasswordInvalid)
IsAcceptedAnswer password text (Err e) = IsVerifyTextAnswer [] password text (Err e) × (e ≢ PasswordInvalid)
