-- Whether a bound admits a text.
use Rattle.std.specs.Prelude.{◌≡◌, ◌⊎◌, ℕ, ◌≤◌, nat_lt, Bool, false, ℤ, Ok, List, [], ◌∷◌, length, unwrap_or}
use Rattle.argon2_base.specs.PhcText.{Phc, IsPhcText}
use Rattle.argon2.specs.Bound.{AsksWithin, IsStoredRefusal}
use Rattle.argon2.specs.Refusals.{first_of, max_len}
use Rattle.argon2.specs.StoredTexts.{StoredValue, stored_of}
use Rattle.argon2.specs.declared.bound.Bound.{Bound}
use Rattle.argon2.specs.declared.bound.BoundError.{BoundError}
use Rattle.argon2_c.specs.declared.code.TheConstants.{OK, PWD_TOO_LONG, SECRET_TOO_LONG, TEXT_INVALID, OUTPUT_OUT_OF_BOUND}
use Rattle.argon2_c.specs.Requests.{IsFaultless}
use Rattle.argon2_c.specs.declared.request.Request.{Request}
use Rattle.argon2_c.specs.declared.phc.shown.PhcShown.{PhcShown}
use Rattle.argon2_c.specs.declared.phc.admit.PhcBound.{PhcBound}
use Rattle.argon2_c.specs.PhcFaults.{bound_code}
use Rattle.argon2_c.specs.PhcShown.{ShowsFields, ShowsSettings}

-- the bound on the costs
abbrev pub bound_of : PhcBound → Bound
bound_of bound = record { m_cost = bound.m_cost; t_cost = bound.t_cost; p_cost = bound.p_cost }

-- the faults of the lengths of a text's hash, of a password and of two secrets
abbrev pub admit_faults : PhcBound → ℕ → ℕ → ℕ → ℕ → List (Bool × ℤ)
admit_faults bound output password secret old_secret =
    (nat_lt output bound.min_output, OUTPUT_OUT_OF_BOUND)
    ∷ (nat_lt bound.max_output output, OUTPUT_OUT_OF_BOUND)
    ∷ (nat_lt max_len password, PWD_TOO_LONG)
    ∷ (nat_lt max_len secret, SECRET_TOO_LONG)
    ∷ (nat_lt max_len old_secret, SECRET_TOO_LONG)
    ∷ []

-- the lengths of a text's hash, of a password and of two secrets have no fault
abbrev pub AreAllowed : PhcBound → ℕ → ℕ → ℕ → ℕ → Type 0
AreAllowed bound output password secret old_secret = (bound.min_output ≤ output) × (output ≤ bound.max_output)
    × (password ≤ max_len) × (secret ≤ max_len) × (old_secret ≤ max_len)

-- If `Bound::admit_stored` of argon2 refuses the value, its error determines the code. Else the code is the code of the first
-- fault of the lengths, or 0.
abbrev pub IsAdmitCode : PhcBound → ℕ → ℕ → ℕ → Phc → ℤ → Type 0
IsAdmitCode bound password secret old_secret v code =
    ((error : BoundError) × IsStoredRefusal (bound_of bound) v error × (code ≡ bound_code error))
    ⊎ ((stored : StoredValue) × AsksWithin (bound_of bound) v × (stored_of v ≡ Ok stored)
    × (code ≡ unwrap_or (first_of (admit_faults bound (length stored.hash) password secret old_secret)) OK))

-- the bound admits the value, and the structure shows what the value is verified by
pub record Admission (bound : PhcBound) (password secret old_secret : ℕ) (v : Phc) (shown : PhcShown) : Type 0 where
  pub stored : StoredValue
  pub reads : stored_of v ≡ Ok stored
  pub asks : AsksWithin (bound_of bound) v
  pub lengths : AreAllowed bound (length stored.hash) password secret old_secret
  pub fields : ShowsFields v shown
  pub settings : ShowsSettings stored.settings shown

-- the request that the structure shows, with this number of threads
abbrev pub admitted_request : ℕ → PhcShown → Request
admitted_request threads shown = record {
  algorithm = shown.algorithm;
  version = shown.version;
  m_cost = shown.m_cost;
  t_cost = shown.t_cost;
  lanes = shown.p_cost;
  threads = threads;
  lacks_output = false;
  lacks_pwd = false;
  lacks_salt = false;
  lacks_secret = false;
  lacks_associated = false;
  has_allocate = false;
  has_free = false;
}

-- what admitting answers for the lengths of a password and of two secrets: the code, and what is then shown
pub record IsAdmitted (bound : PhcBound) (text : List ℕ) (password secret old_secret : ℕ) (code : ℤ) (shown : PhcShown) : Type 0
  where
    pub said : (v : Phc) → IsPhcText text v → IsAdmitCode bound password secret old_secret v code
    pub found : code ≡ OK → (v : Phc) × IsPhcText text v
    pub unsaid : ((v : Phc) → IsPhcText text v → ⊥) → code ≡ TEXT_INVALID
    pub admits : (v : Phc) → code ≡ OK → IsPhcText text v → Admission bound password secret old_secret v shown
    pub faultless : (threads key : ℕ) → code ≡ OK → (key ≡ secret) ⊎ (key ≡ old_secret)
        → IsFaultless (admitted_request threads shown) shown.output_len password shown.salt_len key shown.associated_len
