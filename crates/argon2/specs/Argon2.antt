-- What a contract sees of parameters and of an `Argon2`.
use Rattle.std.specs.Prelude.{◌≡◌, ℕ, ◌^◌, ◌<◌, ◌≤◌, List, [], length, Option, Some, None, Result, Ok, Err}
use Rattle.argon2.specs.declared.algorithm.Algorithm.{Algorithm}
use Rattle.argon2.specs.declared.algorithm.Algorithm.TheVariants.{Argon2id}
use Rattle.argon2.specs.declared.version.Version.{Version}
use Rattle.argon2.specs.declared.version.Version.TheVariants.{V0x13}
use Rattle.argon2.specs.declared.context.Secret.{Secret}
use Rattle.argon2.specs.declared.context.Argon2.{Argon2}
use Rattle.argon2.specs.declared.context.Argon2.TheInside.{Inside}
use Rattle.argon2.specs.declared.params.Params.{Params}
use Rattle.argon2.specs.declared.params.short_bytes.ShortBytes.{ShortBytes}
use Rattle.argon2.specs.Refusals.{max_len}
use Rattle.argon2.specs.Rfc9106.{Context}
use Rattle.argon2.specs.Settings.{AreValid, Parameters, SettingsValue, TargetValue, algorithm_number, first_fault, version_number}
use Rattle.argon2_base.specs.ByteList.{list_bytes}
use Rattle.argon2_base.specs.PhcText.{HasBytes}
use Rattle.argon2_base.specs.declared.error.Error.{Error}
use Rattle.argon2_base.specs.declared.error.Error.TheVariants.{SecretTooLong}

-- ---- parameters

-- the bytes of a key identifier or of associated data
abbrev pub own_bytes : {most : ℕ} → ShortBytes most → List ℕ
own_bytes short = list_bytes short.bytes

-- the bytes of a key identifier
abbrev pub keyid_bytes : ShortBytes 8 → List ℕ
keyid_bytes = own_bytes

-- the bytes of associated data
abbrev pub associated_bytes : ShortBytes 32 → List ℕ
associated_bytes = own_bytes

-- costs, bytes and output length, in place of the fields
abbrev pub parameters_of : Params → Parameters
parameters_of params = record {
  m_cost = params.m_cost;
  t_cost = params.t_cost;
  p_cost = params.p_cost;
  keyid = keyid_bytes params.keyid;
  associated = associated_bytes params.associated;
  output_len = params.output_len;
}

-- ---- an `Argon2`

-- the bytes of a secret, none if there is no secret
abbrev pub secret_bytes : Option Secret → List ℕ
secret_bytes None = []
secret_bytes (Some secret) = secret.bytes.now

-- an algorithm and a version with parameters
abbrev pub settings_with : Algorithm → Version → Params → SettingsValue
settings_with algorithm version params =
    record { algorithm = algorithm; version = version; parameters = parameters_of params }

-- what an `Argon2` of these fields makes hashes under
abbrev pub target_inside : Inside → TargetValue
target_inside a = record { settings = settings_with a.algorithm a.version a.params; secret = secret_bytes a.secret }

-- what an `Argon2` makes hashes under, its settings, and its secret
abbrev pub target_of : Argon2 → TargetValue
target_of argon2 = argon2

abbrev pub settings_of : Argon2 → SettingsValue
settings_of argon2 = argon2.settings

abbrev pub secret_of : Argon2 → List ℕ
secret_of argon2 = argon2.secret

-- what the value of every `Argon2` meets
pub record IsSound (target : TargetValue) : Type 0 where
  pub valid : AreValid target.settings.parameters
  pub m_cost : target.settings.parameters.m_cost < 2 ^ 32
  pub t_cost : target.settings.parameters.t_cost < 2 ^ 32
  pub keyid : HasBytes 0 8 target.settings.parameters.keyid
  pub associated : HasBytes 0 32 target.settings.parameters.associated

-- the parameters of an `Argon2`
abbrev pub own_parameters : Argon2 → Parameters
own_parameters argon2 = (settings_of argon2).parameters

-- the inputs of the standard that settings and a secret make
abbrev pub context_with : SettingsValue → List ℕ → Context
context_with settings secret = record {
  algorithm = algorithm_number settings.algorithm;
  version = version_number settings.version;
  m_cost = settings.parameters.m_cost;
  t_cost = settings.parameters.t_cost;
  p_cost = settings.parameters.p_cost;
  secret = secret;
  associated = settings.parameters.associated;
}

-- what its hashes depend on, besides the password, the salt and the output's length
abbrev pub context_of : Argon2 → Context
context_of argon2 = context_with (settings_of argon2) (secret_of argon2)

-- what it hashes under, with other associated data
abbrev pub context_under : Argon2 → List ℕ → Context
context_under argon2 associated = record (context_of argon2) { associated = associated }

-- it has these settings and this secret
abbrev pub IsWith : SettingsValue → List ℕ → Argon2 → Type 0
IsWith own key argon2 = argon2 ≡ record { settings = own; secret = key }

-- hashing under settings and a secret, or the refusal of a secret of more than 4294967295 bytes
abbrev pub IsKeyed : SettingsValue → List ℕ → Result Argon2 Error → Type 0
IsKeyed own key (Ok argon2) = (length key ≤ max_len) × IsWith own key argon2
IsKeyed own key (Err e) = (e ≡ SecretTooLong) × (max_len < length key)

-- Argon2id of version 0x13 with these parameters
abbrev pub argon2id_with : Parameters → SettingsValue
argon2id_with parameters = record { algorithm = Argon2id; version = V0x13; parameters = parameters }

-- hashing with these parameters, which are valid, and no secret, or their first fault
abbrev pub IsContextOf : Algorithm → Version → Parameters → Result Argon2 Error → Type 0
IsContextOf algorithm version v (Ok argon2) =
    AreValid v × IsWith (record { algorithm = algorithm; version = version; parameters = v }) [] argon2
IsContextOf algorithm version v (Err e) = first_fault v.m_cost v.t_cost v.p_cost v.output_len ≡ Some e
