-- The value that hashing makes, and what hashing to a text answers.
use Rattle.std.specs.Prelude.{◌≡◌, ◌≤◌, ◌<◌, ◌^◌, ◌⊎◌, ℕ, Bool, List, [], ◌∷◌, ◌++◌, length, nat_lt, Option, Some, IsNone, Result, Ok, Err, codes, ok_or, unwrap_or}
use Rattle.rand_core.specs.Stream.{Stream, fill_bytes}
use Rattle.argon2_base.specs.Error.{Fault, bad_algorithm, bad_output_size, bad_password, bad_salt, bad_version, no_memory, outcome_of}
use Rattle.argon2_base.specs.PhcFields.{phc_of}
use Rattle.argon2_base.specs.PhcText.{Phc, HasBytes}
use Rattle.argon2_base.specs.declared.error.password_hash.Error.{Error}
use Rattle.argon2_base.specs.declared.error.password_hash.Error.TheVariants.{OutOfMemory, PasswordInvalid}
use Rattle.argon2_base.specs.declared.phc.hash.PasswordHash.{PasswordHash}
use Rattle.argon2.specs.declared.algorithm.Algorithm.{Algorithm}
use Rattle.argon2.specs.declared.context.Argon2.{Argon2}
use Rattle.argon2.specs.declared.version.Version.{Version}
use Rattle.argon2.specs.Settings.{AreValid, Parameters, SettingsValue, algorithm_name, algorithm_named, version_number, version_numbered}
use Rattle.argon2.specs.Argon2.{context_of, context_with, settings_of}
pub use Rattle.argon2.specs.Argon2.{target_of}
pub use Rattle.argon2.specs.Settings.{TargetValue}
use Rattle.argon2.specs.Rfc9106.{tag_of}
use Rattle.argon2.specs.ListedParameters.{unless_fault, list_of, result_and_then}
use Rattle.argon2.specs.Refusals.{first_of, max_len}

-- the length of the hash in a text: the output length, or 32 if none is set
abbrev pub tag_length : SettingsValue → ℕ
tag_length settings = unwrap_or settings.parameters.output_len 32

-- the settings with that length set
abbrev pub with_tag_length : SettingsValue → SettingsValue
with_tag_length settings = record settings {
  parameters = record settings.parameters { output_len = Some (tag_length settings) };
}

-- the refusals of hashing to a text: no memory, or a password of more than 4294967295 bytes
abbrev pub IsHashingRefusal : List ℕ → Error → Type 0
IsHashingRefusal password OutOfMemory = Unit {0}
IsHashingRefusal password PasswordInvalid = max_len < length password
IsHashingRefusal password _ = ⊥

-- the tag of that length, or the refusal
abbrev pub IsTagAnswer : Argon2 → List ℕ → List ℕ → Result (List ℕ) Error → Type 0
IsTagAnswer argon2 password salt (Ok hash) = (length password ≤ max_len)
    × (hash ≡ tag_of (context_of argon2) password salt (tag_length (settings_of argon2)))
IsTagAnswer argon2 password salt (Err e) = IsHashingRefusal password e

-- the salt of 16 bytes that hashing draws, and what the generator gives after it
abbrev pub drawn_salt : Stream → List ℕ
drawn_salt stream = (fill_bytes 16 stream).0

abbrev pub after_salt : Stream → Stream
after_salt stream = (fill_bytes 16 stream).1

-- the value that a password and a salt make
abbrev pub hash_value : TargetValue → List ℕ → List ℕ → Phc
hash_value target password salt = record {
  algorithm = algorithm_name target.settings.algorithm;
  version = Some (version_number target.settings.version);
  params = list_of target.settings.parameters;
  salt = Some salt;
  hash = Some (tag_of (context_with target.settings target.secret) password salt (tag_length target.settings));
}

-- the value is a fresh one: it is made of the password and these drawn bytes
abbrev pub IsFresh : TargetValue → List ℕ → List ℕ → Phc → Type 0
IsFresh target password drawn v =
    HasBytes 8 48 drawn × (length password ≤ max_len) × (v ≡ hash_value target password drawn)

-- settings whose hashes fit into texts
pub record IsTarget (target : TargetValue) : Type 0 where
  pub valid : AreValid target.settings.parameters
  pub m_cost : target.settings.parameters.m_cost < 2 ^ 32
  pub t_cost : target.settings.parameters.t_cost < 2 ^ 32
  pub keyid : HasBytes 0 8 target.settings.parameters.keyid
  pub associated : HasBytes 0 32 target.settings.parameters.associated
  pub tag_length : tag_length target.settings ≤ 64

-- ---- what hashing to a text answers

-- the faults of a salt of `salt` bytes and a hash of `hash` bytes
abbrev pub text_faults : ℕ → ℕ → List (Bool × Fault)
text_faults salt hash =
    (nat_lt salt 8, bad_salt) ∷ (nat_lt 48 salt, bad_salt) ∷ (nat_lt 64 hash, bad_output_size) ∷ []

-- the fault of a password of `password` bytes
abbrev pub password_faults : ℕ → List (Bool × Fault)
password_faults password = (nat_lt max_len password, bad_password) ∷ []

-- the value that is made, or the fault of the first length that is refused
abbrev pub hash_outcome : TargetValue → List ℕ → List ℕ → Result Phc Fault
hash_outcome target password salt =
    unless_fault (first_of (text_faults (length salt) (tag_length target.settings)
    ++ password_faults (length password))) (Ok (hash_value target password salt))

-- an answer of hashing to a text: this outcome, or no memory if salt and hash fit into a text
abbrev pub IsHashAnswer : TargetValue → List ℕ → List ℕ → Result PasswordHash Error → Type 0
IsHashAnswer target password salt r = (outcome_of phc_of r ≡ hash_outcome target password salt)
    ⊎ ((outcome_of phc_of r ≡ Err no_memory)
    × IsNone (first_of (text_faults (length salt) (tag_length target.settings))))

-- ---- settings that the caller gives

-- the algorithm of this name, Argon2id if none is given, or the fault
abbrev pub algorithm_or_default : Option (List ℕ) → Result Algorithm Fault
algorithm_or_default name = ok_or (algorithm_named (unwrap_or name (codes "argon2id"))) bad_algorithm

-- the version of this number, 0x13 if none is given, or the fault
abbrev pub version_or_default : Option ℕ → Result Version Fault
version_or_default number = ok_or (version_numbered (unwrap_or number 19)) bad_version

-- the settings of a name, a number and parameters, or the fault of the first that does not exist
abbrev pub settings_or_default : Option (List ℕ) → Option ℕ → Parameters → Result SettingsValue Fault
settings_or_default name number parameters = result_and_then (algorithm_or_default name) (λ algorithm.
    result_and_then (version_or_default number) (λ version.
    Ok (record { algorithm = algorithm; version = version; parameters = parameters })))

-- what hashing under such settings may answer
abbrev pub IsAskedAnswer : Result SettingsValue Fault → List ℕ → List ℕ → List ℕ → Result PasswordHash Error → Type 0
IsAskedAnswer (Err fault) secret password salt r = outcome_of phc_of r ≡ Err fault
IsAskedAnswer (Ok settings) secret password salt r =
    IsHashAnswer (record { settings = settings; secret = secret }) password salt r
