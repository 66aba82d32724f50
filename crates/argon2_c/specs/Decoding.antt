-- How the text of a hash is read, and why it is refused.
use Rattle.std.specs.Prelude.{◌≡◌, ℕ, ◌*◌, nat_lt, not, Bool, false, ℤ, Option, Some, None, List, [], ◌∷◌, ◌++◌, length, unwrap_or}
use Rattle.base64.specs.Decode.{IsWrittenOver}
use Rattle.argon2.specs.Refusals.{first_of, max_len}
use Rattle.argon2_c.specs.declared.code.TheConstants.{OK, PWD_TOO_LONG, DECODING_FAIL, INCORRECT_TYPE, MEMORY_ALLOCATION_ERROR}
use Rattle.argon2_c.specs.declared.decode.Shown.{Shown}
use Rattle.argon2_c.specs.declared.request.Request.{Request}
use Rattle.argon2_c.specs.Requests.{request_faults, IsFaultless}
use Rattle.argon2_c.specs.Texts.{IsShown, Said, Says}

-- Why a call is refused before the text is read, by the lengths of the text, of the password and of the room that is lent for
-- what the text says.
abbrev pub call_refusal : ℕ → Bool → ℕ → ℕ → ℕ → Option ℤ
call_refusal algorithm has_text text password room = first_of (
    (nat_lt max_len password, PWD_TOO_LONG)
    ∷ (not has_text, DECODING_FAIL)
    ∷ (nat_lt max_len text, DECODING_FAIL)
    ∷ (nat_lt 2 algorithm, INCORRECT_TYPE)
    ∷ (nat_lt room (2 * text), MEMORY_ALLOCATION_ERROR)
    ∷ [])

-- the request that a text stands for: version 16 if the text has no version, and as many threads as lanes
abbrev pub shown_request : ℕ → Bool → Said → Request
shown_request algorithm lacks_password v = record {
  algorithm = algorithm;
  version = unwrap_or v.version 16;
  m_cost = v.m_cost;
  t_cost = v.t_cost;
  lanes = v.lanes;
  threads = v.lanes;
  lacks_output = false;
  lacks_pwd = lacks_password;
  lacks_salt = false;
  lacks_secret = false;
  lacks_associated = false;
  has_allocate = false;
  has_free = false;
}

-- the code of the first fault of the request that a text stands for
abbrev pub said_code : ℕ → ℕ → Bool → Said → ℤ
said_code algorithm password lacks_password v = unwrap_or (first_of
    (request_faults (shown_request algorithm lacks_password v) (length v.tag) password (length v.salt) 0 0)) OK

-- what reading answers for a password of `password` bytes: the code, what is shown, and what the lent room then holds
pub record IsDecoded (algorithm : ℕ) (has_text : Bool) (text : List ℕ) (password : ℕ) (lacks_password : Bool) (lent : List ℕ)
    (code : ℤ) (shown : Shown) (room : List ℕ) : Type 0 where
  pub refused : (e : ℤ) → call_refusal algorithm has_text (length text) password (length lent) ≡ Some e → code ≡ e
  pub said : (v : Said) → call_refusal algorithm has_text (length text) password (length lent) ≡ None
      → Says algorithm text v → (code ≡ said_code algorithm password lacks_password v)
      × IsShown v shown × IsWrittenOver (v.salt ++ v.tag) lent room
  pub found : code ≡ OK → (v : Said) × Says algorithm text v
  pub faultless : (v : Said) → code ≡ OK → Says algorithm text v
      → IsFaultless (shown_request algorithm lacks_password v) (length v.tag) password (length v.salt) 0 0
