-- What a stored value shows, and when it accepts a password.
use Rattle.std.specs.Prelude.{ℕ, List, length, Some, Result, Ok, Err, ok_or, unwrap_or, ◌≡◌, ◌≤◌, ◌&&◌, nat_le, Bool, if◌then◌else◌, IsOk, ◌⊎◌}
use Rattle.std.specs.Str.{bytes_eq}
use Rattle.argon2_base.specs.Error.{Fault, bad_algorithm, bad_encoding, bad_password, bad_version, no_memory, outcome_of}
use Rattle.argon2_base.specs.PhcFields.{phc_of}
use Rattle.argon2_base.specs.PhcText.{Phc, IsPhcText, phc_text}
use Rattle.argon2_base.specs.declared.phc.hash.PasswordHash.{PasswordHash}
use Rattle.argon2.specs.declared.password_hash.stored.Settings.{Settings}
use Rattle.argon2.specs.declared.password_hash.stored.Stored.{Stored}
use Rattle.argon2.specs.Settings.{SettingsValue, algorithm_named, version_numbered}
use Rattle.argon2.specs.Argon2.{context_with, settings_with}
use Rattle.argon2.specs.ListedParameters.{asked_of, params_of}
pub use Rattle.argon2.specs.ListedParameters.{result_and_then}
use Rattle.argon2_base.specs.declared.error.password_hash.Error.{Error}
use Rattle.argon2.specs.Refusals.{max_len}
use Rattle.argon2.specs.Rfc9106.{tag_of}

-- ---- what a stored value shows

pub record StoredValue : Type 0 where
  pub settings : SettingsValue
  pub salt : List ℕ
  pub hash : List ℕ

-- what a contract sees of the code's settings
abbrev pub settings_value : Settings → SettingsValue
settings_value own = settings_with own.algorithm own.version own.params

-- what a contract sees of the code's stored hash
abbrev pub stored_value : Stored → StoredValue
stored_value own =
    record { settings = settings_value own.settings; salt = own.salt.now; hash = own.hash.now }

-- the settings that a value shows: parameters with the hash's length, an algorithm, and a version, which is 16 if the value has
-- none; or the fault of the first that is missing or unknown
abbrev pub shown_settings : Phc → Result SettingsValue Fault
shown_settings v = result_and_then (asked_of v) (λ parameters.
    result_and_then (ok_or (algorithm_named v.algorithm) bad_algorithm) (λ algorithm.
    result_and_then (ok_or (version_numbered (unwrap_or v.version 16)) bad_version) (λ version.
    Ok (record { algorithm = algorithm; version = version; parameters = parameters }))))

-- a salt, a hash and settings, or the fault of the first that is missing or unknown
abbrev pub stored_of : Phc → Result StoredValue Fault
stored_of v = result_and_then (ok_or v.salt bad_password) (λ salt.
    result_and_then (ok_or v.hash bad_password) (λ hash.
    result_and_then (shown_settings v) (λ settings.
    Ok (record { settings = settings; salt = salt; hash = hash }))))

-- ---- when a text accepts a password

-- under a secret, the value accepts the password
pub record AcceptsBy (secret password : List ℕ) (v : Phc) : Type 0 where
  pub salt : List ℕ
  pub hash : List ℕ
  pub settings : SettingsValue
  pub has_salt : v.salt ≡ Some salt
  pub has_hash : v.hash ≡ Some hash
  pub has_parameters : params_of (Some (length hash)) v.params ≡ Ok settings.parameters
  pub has_algorithm : algorithm_named v.algorithm ≡ Some settings.algorithm
  pub has_version : version_numbered (unwrap_or v.version 16) ≡ Some settings.version
  pub short : length password ≤ max_len
  pub same_tag : hash ≡ tag_of (context_with settings secret) password salt (length hash)

-- under a secret, the text accepts the password
abbrev pub Accepts : List ℕ → List ℕ → List ℕ → Type 0
Accepts secret password text = (v : Phc) × IsPhcText text v × AcceptsBy secret password v

-- under a secret, the text of the hash accepts the password
pub record AcceptsHash (secret password : List ℕ) (hash : PasswordHash) : Type 0 where
  pub text : Accepts secret password (phc_text (phc_of hash))

-- ---- what verifying answers

-- the password isn't too long, and the hash is its tag
abbrev pub is_tag : List ℕ → List ℕ → StoredValue → Bool
is_tag secret password stored = nat_le (length password) max_len && bytes_eq stored.hash
    (tag_of (context_with stored.settings secret) password stored.salt (length stored.hash))

-- the outcome of verifying a value: Ok, or the fault of the first condition that fails
abbrev pub verify_outcome : List ℕ → List ℕ → Phc → Result (Unit {0}) Fault
verify_outcome secret password v =
    result_and_then (stored_of v) (λ stored. if is_tag secret password stored then Ok tt else Err bad_password)

-- an answer of verifying a value: this outcome, or no memory if the value can be checked
abbrev pub IsVerifyAnswer : List ℕ → List ℕ → Phc → Result (Unit {0}) Error → Type 0
IsVerifyAnswer secret password v r = (outcome_of (λ x. x) r ≡ verify_outcome secret password v)
    ⊎ ((outcome_of (λ x. x) r ≡ Err no_memory) × IsOk (stored_of v))

-- an answer of verifying a text: the answer for its value, or `EncodingInvalid` if it is the text of no value
abbrev pub IsVerifyTextAnswer : List ℕ → List ℕ → List ℕ → Result (Unit {0}) Error → Type 0
IsVerifyTextAnswer secret password text r =
    ((v : Phc) × IsPhcText text v × IsVerifyAnswer secret password v r)
    ⊎ (((v : Phc) → IsPhcText text v → ⊥) × (outcome_of (λ x. x) r ≡ Err bad_encoding))
