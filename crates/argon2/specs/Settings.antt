-- The settings that passwords are hashed under: algorithm, version and parameters.
use Rattle.std.specs.Prelude.{◌≡◌, ◌≢◌, ℕ, List, [], ◌∷◌, codes, Option, Result, Ok, Err, ◌==◌, ◌*◌, nat_lt, None, IsNone, unwrap_or}
use Rattle.std.specs.List.{find}
use Rattle.std.specs.Str.{bytes_eq}
use Rattle.argon2.specs.declared.algorithm.Algorithm.{Algorithm}
use Rattle.argon2.specs.declared.algorithm.Algorithm.TheVariants.{Argon2d, Argon2i, Argon2id}
use Rattle.argon2_base.specs.declared.error.Error.{Error}
use Rattle.argon2_base.specs.declared.error.Error.TheVariants.{MemoryTooLittle, OutputTooLong, OutputTooShort, ThreadsTooFew, ThreadsTooMany, TimeTooSmall}
use Rattle.argon2.specs.declared.version.Version.{Version}
use Rattle.argon2.specs.declared.version.Version.TheVariants.{V0x10, V0x13}
use Rattle.argon2.specs.Refusals.{first_of, max_len}

-- ---- algorithms

-- the name of a variant
abbrev pub algorithm_name : Algorithm → List ℕ
algorithm_name Argon2d = codes "argon2d"
algorithm_name Argon2i = codes "argon2i"
algorithm_name Argon2id = codes "argon2id"

-- the type y of a variant (RFC 9106, section 3.2)
abbrev pub algorithm_number : Algorithm → ℕ
algorithm_number Argon2d = 0
algorithm_number Argon2i = 1
algorithm_number Argon2id = 2

-- the variant of this name
abbrev pub algorithm_named : List ℕ → Option Algorithm
algorithm_named name =
    find (λ algorithm. bytes_eq name (algorithm_name algorithm)) (Argon2d ∷ Argon2i ∷ Argon2id ∷ [])

-- ---- versions

-- the number v of a version (RFC 9106, section 3.2)
abbrev pub version_number : Version → ℕ
version_number V0x10 = 16
version_number V0x13 = 19

-- the version of this number
abbrev pub version_numbered : ℕ → Option Version
version_numbered number = find (λ version. number == version_number version) (V0x10 ∷ V0x13 ∷ [])

-- ---- names and numbers that are read

-- the variant of this name, or the version of this number; or the refusal of a name or a number that none of them has
abbrev pub IsReadBy : {X Y E : Type 0} → (X → Y) → E → Y → Result X E → Type 0
IsReadBy name fault given (Ok x) = given ≡ name x
IsReadBy {X} name fault given (Err e) = (e ≡ fault) × ((x : X) → given ≢ name x)

-- ---- parameters

-- memory in blocks of 1024 bytes, passes and lanes; the bytes of the key identifier and of the
-- associated data; and the output's length in bytes, if it is set
pub record Parameters : Type 0 where
  pub m_cost : ℕ
  pub t_cost : ℕ
  pub p_cost : ℕ
  pub keyid : List ℕ
  pub associated : List ℕ
  pub output_len : Option ℕ

-- the most lanes
abbrev pub max_lanes : ℕ
max_lanes = 16777215

-- the first fault of costs and an output length
abbrev pub first_fault : ℕ → ℕ → ℕ → Option ℕ → Option Error
first_fault m t p output_len = first_of (
    (nat_lt m 8, MemoryTooLittle)
    ∷ (nat_lt p 1, ThreadsTooFew) ∷ (nat_lt max_lanes p, ThreadsTooMany)
    ∷ (nat_lt m (8 * p), MemoryTooLittle) ∷ (nat_lt t 1, TimeTooSmall)
    ∷ (nat_lt (unwrap_or output_len 4) 4, OutputTooShort)
    ∷ (nat_lt max_len (unwrap_or output_len 4), OutputTooLong) ∷ [])

-- parameters without a fault
abbrev pub AreValid : Parameters → Type 0
AreValid v = IsNone (first_fault v.m_cost v.t_cost v.p_cost v.output_len)

-- costs and an output length, with no key identifier and no associated data
abbrev pub cost_parameters : ℕ → ℕ → ℕ → Option ℕ → Parameters
cost_parameters m t p output_len = record {
  m_cost = m;
  t_cost = t;
  p_cost = p;
  keyid = [];
  associated = [];
  output_len = output_len;
}

-- the parameters that are used if none are given
abbrev pub default_parameters : Parameters
default_parameters = cost_parameters 19456 2 1 None

-- ---- settings

pub record SettingsValue : Type 0 where
  pub algorithm : Algorithm
  pub version : Version
  pub parameters : Parameters

-- ---- what hashes are made under

-- settings, and a secret, which is empty if there is none
pub record TargetValue : Type 0 where
  pub settings : SettingsValue
  pub secret : List ℕ
