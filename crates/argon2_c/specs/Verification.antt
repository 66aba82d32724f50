-- The calls that verify the text of a hash, one after another: for argon2.h, and for argon2_phc.h.
use Rattle.std.specs.Prelude.{◌≡◌, ◌⊎◌, ℕ, ◌≤◌, Bool, ℤ, if◌then◌else◌, None, List, [], drop, length, take}
use Rattle.std.specs.Str.{bytes_eq}
use Rattle.argon2.specs.Bound.{AcceptsWithin}
use Rattle.argon2.specs.Refusals.{max_len}
use Rattle.argon2.specs.Rfc9106.{block_count, tag_of}
use Rattle.argon2_c.specs.declared.code.TheConstants.{OK, VERIFY_MISMATCH}
use Rattle.argon2_c.specs.declared.decode.Shown.{Shown}
use Rattle.argon2_c.specs.declared.phc.shown.PhcShown.{PhcShown}
use Rattle.argon2_c.specs.declared.phc.admit.PhcBound.{PhcBound}
use Rattle.argon2_c.specs.declared.request.Request.{Request}
use Rattle.argon2_c.specs.PhcAdmission.{admitted_request, bound_of, IsAdmitted}
use Rattle.argon2_c.specs.Requests.{request_context, IsTagged}
use Rattle.argon2_c.specs.Texts.{IsShown, Said, Says}
use Rattle.argon2_c.specs.Decoding.{call_refusal, said_code, shown_request, IsDecoded}

-- the code of comparing two hashes
abbrev pub compare_code : List ℕ → List ℕ → ℤ
compare_code a b = if bytes_eq a b then OK else VERIFY_MISMATCH

-- A text and a password, and what the calls make of them: each is as its contract says.
pub record Verification : Type 0 where
  pub algorithm : ℕ
  pub has_text : Bool
  pub text : List ℕ
  pub password : List ℕ
  pub lacks_password : Bool
  -- `argon2_c_decode` with room that is lent
  pub lent : List ℕ
  pub decoded : ℤ
  pub shown : Shown
  pub room : List ℕ
  pub decodes : IsDecoded algorithm has_text text (length password) lacks_password lent decoded shown room
  -- then `argon2_c_hash` with the request and the salt that are shown, on as much memory as the costs ask for
  pub request : Request
  pub asked : (v : Said) → IsShown v shown → request ≡ shown_request algorithm lacks_password v
  pub out : List ℕ
  pub size : length out ≡ shown.tag
  pub hashed : ℤ
  pub tag : List ℕ
  pub hashes : decoded ≡ OK → IsTagged request password (take shown.salt room) [] []
      (block_count (request_context request [] [])) out hashed tag
  -- then `argon2_c_compare` with the hash that is shown
  pub compared : ℤ
  pub compares : decoded ≡ OK → hashed ≡ OK → compared ≡ compare_code (take shown.tag (drop shown.salt room)) tag

-- neither the call nor what the text says has a fault, and the hash of the text is the password's tag
abbrev pub IsAccepted : Verification → Type 0
IsAccepted c = (v : Said) × Says c.algorithm c.text v
    × (call_refusal c.algorithm c.has_text (length c.text) (length c.password) (length c.lent) ≡ None)
    × (said_code c.algorithm (length c.password) c.lacks_password v ≡ OK)
    × (v.tag ≡ tag_of (request_context (shown_request c.algorithm c.lacks_password v) [] []) c.password v.salt (length v.tag))

-- A text, a bound, a password and two secrets, and what the calls make of them under one of the secrets: each is as its contract
-- says.
pub record BoundVerification : Type 0 where
  pub bound : PhcBound
  pub text : List ℕ
  pub password : List ℕ
  pub secret : List ℕ
  pub old_secret : List ℕ
  -- `argon2_c_phc_admit`
  pub admitted : ℤ
  pub shown : PhcShown
  pub admits : IsAdmitted bound text (length password) (length secret) (length old_secret) admitted shown
  -- then `argon2_c_hash` under one of the secrets, with the request, the salt and the associated data that are shown, on as much
  -- memory as the costs ask for
  pub key : List ℕ
  pub is_key : (key ≡ secret) ⊎ (key ≡ old_secret)
  pub threads : ℕ
  pub out : List ℕ
  pub size : length out ≡ shown.output_len
  pub hashed : ℤ
  pub tag : List ℕ
  pub hashes : admitted ≡ OK → IsTagged (admitted_request threads shown) password (take shown.salt_len shown.salt) key
      (take shown.associated_len shown.associated) (block_count (request_context (admitted_request threads shown) [] []))
      out hashed tag
  -- then `argon2_c_compare` with the hash that is shown
  pub compared : ℤ
  pub compares : admitted ≡ OK → hashed ≡ OK → compared ≡ compare_code (take shown.output_len shown.output) tag

-- within the bound, the text accepts the password under that secret; its hash has a length that the bound allows, and neither
-- secret is too long
abbrev pub IsAcceptedWithin : BoundVerification → Type 0
IsAcceptedWithin c = (accepts : AcceptsWithin (bound_of c.bound) c.key c.password c.text)
    × (c.bound.min_output ≤ length accepts.3.hash) × (length accepts.3.hash ≤ c.bound.max_output)
    × (length c.secret ≤ max_len) × (length c.old_secret ≤ max_len)
