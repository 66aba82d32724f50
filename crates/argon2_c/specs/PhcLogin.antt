-- A login: why it can't renew hashes at all, and whether a hash that accepted the password is replaced.
use Rattle.std.specs.Prelude.{◌≡◌, ◌⊎◌, ℕ, ◌≤◌, not, nat_lt, Bool, IsTrue, ℤ, Option, Some, List, [], ◌∷◌, Result, Ok, Err, length, unwrap_or}
use Rattle.std.specs.Option.{option_or}
use Rattle.std.specs.Str.{bytes_eq}
use Rattle.argon2_base.specs.Error.{Fault}
use Rattle.argon2.specs.Policy.{AreNoWeaker}
use Rattle.argon2.specs.Refusals.{first_of}
use Rattle.argon2.specs.Settings.{Parameters, SettingsValue, algorithm_number, version_number}
use Rattle.argon2_c.specs.declared.code.TheConstants.{OK, CURRENT, DUE, SECRETS_DIFFER, WANTED_OUT_OF_BOUND}
use Rattle.argon2_c.specs.declared.request.Request.{Request}
use Rattle.argon2_c.specs.declared.phc.admit.PhcBound.{PhcBound}
use Rattle.argon2_c.specs.PhcFaults.{text_code}
use Rattle.argon2_c.specs.PhcRequests.{AreTaken, making_faults, params_refusal}

-- Why a verifier would refuse each new hash of `output` bytes: the bound refuses a cost or the length, or the secrets differ
abbrev pub wanted_faults : PhcBound → Request → ℕ → List ℕ → List ℕ → List (Bool × ℤ)
wanted_faults bound wanted output secret verifying =
    (nat_lt bound.m_cost wanted.m_cost, WANTED_OUT_OF_BOUND)
    ∷ (nat_lt bound.t_cost wanted.t_cost, WANTED_OUT_OF_BOUND)
    ∷ (nat_lt bound.p_cost wanted.lanes, WANTED_OUT_OF_BOUND)
    ∷ (nat_lt output bound.min_output, WANTED_OUT_OF_BOUND)
    ∷ (nat_lt bound.max_output output, WANTED_OUT_OF_BOUND)
    ∷ (not (bytes_eq secret verifying), SECRETS_DIFFER)
    ∷ []

-- The code of the first fault of parameters of new hashes, or 0. First come the faults beside the verifier, then the parameters,
-- then a text with a salt of 16 bytes. If `output` is set, new hashes have this length, else 32 bytes.
abbrev pub wanted_code : PhcBound → Request → Option ℕ → ℕ → ℕ → List ℕ → List ℕ → ℤ
wanted_code bound wanted output keyid associated secret verifying =
    let hash = unwrap_or output 32 in
    unwrap_or (option_or (first_of (wanted_faults bound wanted hash secret verifying))
    (option_or (params_refusal wanted output 32 keyid associated (length secret))
    (first_of (making_faults 16 hash 0)))) OK

-- the verifier allows new hashes of `output` bytes
pub record IsAllowed (bound : PhcBound) (wanted : Request) (output : ℕ) (secret verifying : List ℕ) : Type 0 where
  pub m_cost : wanted.m_cost ≤ bound.m_cost
  pub t_cost : wanted.t_cost ≤ bound.t_cost
  pub p_cost : wanted.lanes ≤ bound.p_cost
  pub least : bound.min_output ≤ output
  pub most : output ≤ bound.max_output
  pub same_secret : secret ≡ verifying

-- parameters of new hashes that have no fault: the verifier allows a hash, and it fits into a text
pub record AreRenewing (bound : PhcBound) (wanted : Request) (output : Option ℕ) (keyid associated : ℕ)
    (secret verifying : List ℕ) : Type 0 where
  pub allowed : IsAllowed bound wanted (unwrap_or output 32) secret verifying
  pub taken : AreTaken wanted output 32 keyid associated (length secret)
  pub fits : unwrap_or output 32 ≤ 64

-- the settings of a request with this key identifier, associated data and length of hashes
pub record AreWanted (wanted : Request) (output : ℕ) (keyid associated : List ℕ) (settings : SettingsValue) : Type 0 where
  pub algorithm : algorithm_number settings.algorithm ≡ wanted.algorithm
  pub version : version_number settings.version ≡ wanted.version
  pub parameters : settings.parameters ≡ record {
    m_cost = wanted.m_cost;
    t_cost = wanted.t_cost;
    p_cost = wanted.lanes;
    keyid = keyid;
    associated = associated;
    output_len = Some output;
  }

-- whether a hash that shows these settings, or has this fault, is replaced: the old secret accepted, or the hash is weaker than
-- wanted
abbrev pub IsDueCode : SettingsValue → Bool → Result SettingsValue Fault → ℤ → Type 0
IsDueCode wanted by_old_secret (Ok shown) code =
    ((code ≡ DUE) × (IsTrue by_old_secret ⊎ ¬ (AreNoWeaker wanted shown)))
    ⊎ ((code ≡ CURRENT) × ¬ (IsTrue by_old_secret) × AreNoWeaker wanted shown)
IsDueCode wanted by_old_secret (Err fault) code = code ≡ text_code fault
