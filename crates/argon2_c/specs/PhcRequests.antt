-- What a C caller asks for in a call of argon2_phc.h, and why it is refused.
use Rattle.std.specs.Prelude.{◌≡◌, ◌⊎◌, ℕ, ◌≤◌, ◌==◌, ◌&&◌, not, nat_lt, Bool, ℤ, Option, Some, None, if◌then◌else◌, List, [], ◌∷◌, length, option_map, unwrap_or}
use Rattle.std.specs.Option.{option_or}
use Rattle.argon2_base.specs.PhcText.{Phc, phc_text}
use Rattle.argon2_base.specs.declared.error.Error.{Error}
use Rattle.argon2_base.specs.declared.error.Error.TheVariants.{OutputTooLong, OutputTooShort, ThreadsTooFew, ThreadsTooMany, TimeTooSmall}
use Rattle.argon2.specs.ListedParameters.{parameter_items}
use Rattle.argon2.specs.Refusals.{first_of, max_len}
use Rattle.argon2.specs.Settings.{first_fault}
use Rattle.argon2_c.specs.declared.code.TheConstants.{OK, OUTPUT_TOO_SHORT, OUTPUT_TOO_LONG, PWD_TOO_LONG, SALT_TOO_SHORT, SALT_TOO_LONG, AD_TOO_LONG, SECRET_TOO_LONG, TIME_TOO_SMALL, MEMORY_TOO_LITTLE, LANES_TOO_FEW, LANES_TOO_MANY, KEYID_TOO_LONG, NO_ALGORITHM, NO_VERSION, ROOM_TOO_SHORT}
use Rattle.argon2_c.specs.declared.request.Request.{Request}
use Rattle.argon2_c.specs.Texts.{name_numbered}

-- the code of a fault of costs or of an output's length
abbrev pub error_code : Error → ℤ
error_code ThreadsTooFew = LANES_TOO_FEW
error_code ThreadsTooMany = LANES_TOO_MANY
error_code TimeTooSmall = TIME_TOO_SMALL
error_code OutputTooShort = OUTPUT_TOO_SHORT
error_code OutputTooLong = OUTPUT_TOO_LONG
error_code _ = MEMORY_TOO_LITTLE

-- the length of outputs, if it is set
abbrev pub length_set : Bool → ℕ → Option ℕ
length_set is_set n = if is_set then Some n else None

-- why a variant, a version and the lengths of a key identifier, of associated data and of a secret are refused
abbrev pub own_faults : Request → ℕ → ℕ → ℕ → ℕ → List (Bool × ℤ)
own_faults r most_associated keyid associated secret =
    (nat_lt 8 keyid, KEYID_TOO_LONG)
    ∷ (nat_lt most_associated associated, AD_TOO_LONG)
    ∷ (nat_lt 2 r.algorithm, NO_ALGORITHM)
    ∷ (not (r.version == 16) && not (r.version == 19), NO_VERSION)
    ∷ (nat_lt max_len secret, SECRET_TOO_LONG)
    ∷ []

-- Why parameters are refused. If `output` is set, outputs have this length. The costs and the length are refused as by
-- `Params::new` of argon2, and then the rest.
abbrev pub params_refusal : Request → Option ℕ → ℕ → ℕ → ℕ → ℕ → Option ℤ
params_refusal r output most_associated keyid associated secret =
    option_or (option_map error_code (first_fault r.m_cost r.t_cost r.lanes output))
    (first_of (own_faults r most_associated keyid associated secret))

-- parameters that are not refused
pub record AreTaken (r : Request) (output : Option ℕ) (most_associated keyid associated secret : ℕ) : Type 0 where
  pub costs : first_fault r.m_cost r.t_cost r.lanes output ≡ None
  pub keyid_most : keyid ≤ 8
  pub associated_most : associated ≤ most_associated
  pub is_variant : r.algorithm ≤ 2
  pub is_version : (r.version ≡ 16) ⊎ (r.version ≡ 19)
  pub secret_most : secret ≤ max_len

-- the faults of a text, by the lengths of its salt and its hash and the length of the password
abbrev pub making_faults : ℕ → ℕ → ℕ → List (Bool × ℤ)
making_faults salt hash password =
    (nat_lt salt 8, SALT_TOO_SHORT)
    ∷ (nat_lt 48 salt, SALT_TOO_LONG)
    ∷ (nat_lt hash 4, OUTPUT_TOO_SHORT)
    ∷ (nat_lt 64 hash, OUTPUT_TOO_LONG)
    ∷ (nat_lt max_len password, PWD_TOO_LONG)
    ∷ []

-- the faults of a tag of `out` bytes, by this length and the lengths of the password and the salt
abbrev pub tag_faults : Option ℕ → ℕ → ℕ → ℕ → List (Bool × ℤ)
tag_faults output out password salt =
    (nat_lt out (unwrap_or output 4), OUTPUT_TOO_SHORT)
    ∷ (nat_lt (unwrap_or output max_len) out, OUTPUT_TOO_LONG)
    ∷ (nat_lt max_len password, PWD_TOO_LONG)
    ∷ (nat_lt salt 8, SALT_TOO_SHORT)
    ∷ (nat_lt max_len salt, SALT_TOO_LONG)
    ∷ []

-- the value of parameters, a salt and a hash
abbrev pub value_with : Request → List ℕ → List ℕ → List ℕ → List ℕ → Phc
value_with r keyid associated salt hash = record {
  algorithm = name_numbered r.algorithm;
  version = Some r.version;
  params = parameter_items r.m_cost r.t_cost r.lanes keyid associated;
  salt = Some salt;
  hash = Some hash;
}

-- what writing the text of a hash and a zero byte into `room` bytes answers
abbrev pub phc_encode_code : Request → List ℕ → List ℕ → List ℕ → List ℕ → ℕ → ℤ
phc_encode_code r keyid associated salt hash room = unwrap_or
    (option_or (params_refusal r None 32 (length keyid) (length associated) 0)
    (first_of (making_faults (length salt) (length hash) 0)))
    (if nat_lt (length (phc_text (value_with r keyid associated salt hash))) room then OK else ROOM_TOO_SHORT)
