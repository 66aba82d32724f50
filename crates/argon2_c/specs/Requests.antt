-- What a C caller asks for: what its hash depends on, and why it is refused.
use Rattle.std.specs.Prelude.{◌≡◌, ◌⊎◌, ◌↔◌, ℕ, ◌*◌, ◌≤◌, ◌&&◌, not, nat_lt, ◌==◌, Bool, ℤ, List, [], ◌∷◌, length}
use Rattle.argon2.specs.Rfc9106.{Context, block_count, tag_of}
use Rattle.argon2.specs.Refusals.{max_len}
use Rattle.argon2.specs.Settings.{max_lanes}
use Rattle.argon2_c.specs.declared.code.TheConstants.{OK, OUTPUT_PTR_NULL, OUTPUT_TOO_SHORT, OUTPUT_TOO_LONG, PWD_TOO_LONG, SALT_TOO_SHORT, SALT_TOO_LONG, AD_TOO_LONG, SECRET_TOO_LONG, TIME_TOO_SMALL, MEMORY_TOO_LITTLE, LANES_TOO_FEW, LANES_TOO_MANY, PWD_PTR_MISMATCH, SALT_PTR_MISMATCH, SECRET_PTR_MISMATCH, AD_PTR_MISMATCH, FREE_MEMORY_CBK_NULL, ALLOCATE_MEMORY_CBK_NULL, INCORRECT_TYPE, THREADS_TOO_FEW, THREADS_TOO_MANY}
use Rattle.argon2_c.specs.declared.request.Request.{Request}

-- what the hash depends on, besides the password, the salt and the output's length
abbrev pub request_context : Request → List ℕ → List ℕ → Context
request_context request secret associated = record {
  algorithm = request.algorithm;
  version = request.version;
  m_cost = request.m_cost;
  t_cost = request.t_cost;
  p_cost = request.lanes;
  secret = secret;
  associated = associated;
}

-- Why a request is refused, by the lengths of output, password, salt, secret and associated data, in the order of argon2.h's
-- library. A variant and a version that do not exist come last.
abbrev pub request_faults : Request → ℕ → ℕ → ℕ → ℕ → ℕ → List (Bool × ℤ)
request_faults r output password salt secret associated =
    (r.lacks_output, OUTPUT_PTR_NULL)
    ∷ (nat_lt output 4, OUTPUT_TOO_SHORT)
    ∷ (nat_lt max_len output, OUTPUT_TOO_LONG)
    ∷ (r.lacks_pwd, PWD_PTR_MISMATCH)
    ∷ (nat_lt max_len password, PWD_TOO_LONG)
    ∷ (r.lacks_salt, SALT_PTR_MISMATCH)
    ∷ (nat_lt salt 8, SALT_TOO_SHORT)
    ∷ (nat_lt max_len salt, SALT_TOO_LONG)
    ∷ (r.lacks_secret, SECRET_PTR_MISMATCH)
    ∷ (nat_lt max_len secret, SECRET_TOO_LONG)
    ∷ (r.lacks_associated, AD_PTR_MISMATCH)
    ∷ (nat_lt max_len associated, AD_TOO_LONG)
    ∷ (nat_lt r.m_cost 8, MEMORY_TOO_LITTLE)
    ∷ (nat_lt r.m_cost (8 * r.lanes), MEMORY_TOO_LITTLE)
    ∷ (nat_lt r.t_cost 1, TIME_TOO_SMALL)
    ∷ (nat_lt r.lanes 1, LANES_TOO_FEW)
    ∷ (nat_lt max_lanes r.lanes, LANES_TOO_MANY)
    ∷ (nat_lt r.threads 1, THREADS_TOO_FEW)
    ∷ (nat_lt max_lanes r.threads, THREADS_TOO_MANY)
    ∷ (r.has_allocate && not r.has_free, FREE_MEMORY_CBK_NULL)
    ∷ (not r.has_allocate && r.has_free, ALLOCATE_MEMORY_CBK_NULL)
    ∷ (nat_lt 2 r.algorithm, INCORRECT_TYPE)
    ∷ (not (r.version == 16) && not (r.version == 19), INCORRECT_TYPE)
    ∷ []

-- why argon2_hash refuses lengths before all else
abbrev pub length_faults : ℕ → ℕ → ℕ → List (Bool × ℤ)
length_faults output password salt =
    (nat_lt max_len password, PWD_TOO_LONG)
    ∷ (nat_lt max_len salt, SALT_TOO_LONG)
    ∷ (nat_lt max_len output, OUTPUT_TOO_LONG)
    ∷ (nat_lt output 4, OUTPUT_TOO_SHORT)
    ∷ []

-- the request has none of the faults that matter to a hash: null pointers, threads and callbacks do not
pub record IsFaultless (r : Request) (output password salt secret associated : ℕ) : Type 0 where
  pub out_least : 4 ≤ output
  pub out_most : output ≤ max_len
  pub pwd_most : password ≤ max_len
  pub salt_least : 8 ≤ salt
  pub salt_most : salt ≤ max_len
  pub secret_most : secret ≤ max_len
  pub associated_most : associated ≤ max_len
  pub memory_least : 8 * r.lanes ≤ r.m_cost
  pub some_pass : 1 ≤ r.t_cost
  pub some_lane : 1 ≤ r.lanes
  pub lanes_most : r.lanes ≤ max_lanes
  pub is_variant : r.algorithm ≤ 2
  pub is_version : (r.version ≡ 16) ⊎ (r.version ≡ 19)

-- what hashing on `blocks` blocks answers: the code, and the tag, which has the length of `out`
pub record IsTagged (r : Request) (password salt secret associated : List ℕ) (blocks : ℕ) (out : List ℕ)
    (code : ℤ) (tag : List ℕ) : Type 0 where
  pub taken : (code ≡ OK)
      ↔ IsFaultless r (length out) (length password) (length salt) (length secret) (length associated)
      × (blocks ≡ block_count (request_context r [] []))
  pub tagged : code ≡ OK → tag ≡ tag_of (request_context r secret associated) password salt (length out)
