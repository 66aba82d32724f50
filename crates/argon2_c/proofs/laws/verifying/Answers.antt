use Rattle.std.proofs.Common.{◌≡◌, ◌++◌, ◌*◌, nat_lt, not, ℤ, Bool, true, false, Some, None, [], ◌∷◌, length, refl, sym, ap, ◌∙◌}
use Rattle.std.specs.Prelude.{drop, take}
use Rattle.std.proofs.lemmas.List.{append_assoc, drop_at, take_at}
use Rattle.argon2.specs.Refusals.{first_of, max_len}
use Rattle.argon2.specs.Rfc9106.{tag_of}
use Rattle.argon2_c.specs.declared.code.TheConstants.{OK, PWD_TOO_LONG, DECODING_FAIL, INCORRECT_TYPE, MEMORY_ALLOCATION_ERROR}
use Rattle.argon2_c.specs.Requests.{request_context}
use Rattle.argon2_c.specs.Texts.{Said, Says}
use Rattle.argon2_c.specs.Verification.{Verification}
use Rattle.argon2_c.specs.Decoding.{call_refusal, shown_request}
use Rattle.argon2_c.proofs.Compared.{compare_code-OK}
use Rattle.argon2_c.proofs.laws.verifying.Goals as goal

-- a call whose code is 0 has no fault
first_of-none : (a b c d e : Bool) (code : ℤ) → code ≡ OK
    → ((x : ℤ) → first_of ((a, PWD_TOO_LONG) ∷ (b, DECODING_FAIL) ∷ (c, DECODING_FAIL) ∷ (d, INCORRECT_TYPE)
    ∷ (e, MEMORY_ALLOCATION_ERROR) ∷ []) ≡ Some x → code ≡ x)
    → first_of ((a, PWD_TOO_LONG) ∷ (b, DECODING_FAIL) ∷ (c, DECODING_FAIL) ∷ (d, INCORRECT_TYPE)
    ∷ (e, MEMORY_ALLOCATION_ERROR) ∷ []) ≡ None
first_of-none true b c d e code ok h = absurd (let x = sym ok ∙ h _ refl in cc)
first_of-none false true c d e code ok h = absurd (let x = sym ok ∙ h _ refl in cc)
first_of-none false false true d e code ok h = absurd (let x = sym ok ∙ h _ refl in cc)
first_of-none false false false true e code ok h = absurd (let x = sym ok ∙ h _ refl in cc)
first_of-none false false false false true code ok h = absurd (let x = sym ok ∙ h _ refl in cc)
first_of-none false false false false false code ok h = refl

-- what the calls make of a text that is read: its salt, its hash, and the password's tag
record IsMade (c : Verification) (v : Said) : Type 0 where
  salt : take c.shown.salt c.room ≡ v.salt
  hash : take c.shown.tag (drop c.shown.salt c.room) ≡ v.tag
  hashed : c.hashed ≡ OK
  tag : c.tag ≡ tag_of (request_context (shown_request c.algorithm c.lacks_password v) [] []) c.password v.salt (length v.tag)

-- the calls make this of each text that is read
IsMade-decoded : (c : Verification) (v : Said) → c.decoded ≡ OK → Says c.algorithm c.text v
    → call_refusal c.algorithm c.has_text (length c.text) (length c.password) (length c.lent) ≡ None → IsMade c v
IsMade-decoded c v ok says none =
    let said = c.decodes.said v none says in
    let shown = said.1 in
    let rest = drop (length (v.salt ++ v.tag)) c.lent in
    let room : c.room ≡ v.salt ++ (v.tag ++ rest) = said.2 ∙ append_assoc v.salt v.tag rest in
    let salt = ap (take c.shown.salt) room ∙ take_at v.salt (v.tag ++ rest) c.shown.salt (sym shown.salt) in
    let after = ap (drop c.shown.salt) room ∙ drop_at v.salt (v.tag ++ rest) c.shown.salt (sym shown.salt) in
    let hash = ap (take c.shown.tag) after ∙ take_at v.tag rest c.shown.tag (sym shown.tag) in
    let request = c.asked v shown in
    let size = c.size ∙ shown.tag in
    let tagged = c.hashes ok in
    let hashed = tagged.taken.1 (rw (request, size, salt) (c.decodes.faultless v ok says), refl) in
    record { salt = salt; hash = hash; hashed = hashed; tag = rw (request, size, salt) at (tagged.tagged hashed) }

-- a call that answers 0 is not refused
call_refusal-none : (c : Verification) → c.decoded ≡ OK
    → call_refusal c.algorithm c.has_text (length c.text) (length c.password) (length c.lent) ≡ None
call_refusal-none c ok = first_of-none (nat_lt max_len (length c.password)) (not c.has_text) (nat_lt max_len (length c.text))
    (nat_lt 2 c.algorithm) (nat_lt (length c.lent) (2 * length c.text)) c.decoded ok c.decodes.refused

pub returns-clause-hashes : goal.returns-clause-hashes
returns-clause-hashes g = λ c ok.
    let found = c.decodes.found ok in
    (IsMade-decoded c found.0 ok found.1 (call_refusal-none c ok)).hashed

pub returns-clause-accepts : goal.returns-clause-accepts
returns-clause-accepts g = λ c. (
  (λ all.
      let found = c.decodes.found all.0 in
      let v = found.0 in
      let none = call_refusal-none c all.0 in
      let m = IsMade-decoded c v all.0 found.1 none in
      let same = (compare_code-OK _ _).0 (sym (c.compares all.0 all.1) ∙ all.2) in
      (v, found.1, none, sym (c.decodes.said v none found.1).0 ∙ all.0, sym m.hash ∙ same ∙ m.tag)),
  (λ is.
      let v = is.0 in
      let ok = (c.decodes.said v is.2 is.1).0 ∙ is.3 in
      let m = IsMade-decoded c v ok is.1 is.2 in
      (ok, m.hashed, c.compares ok m.hashed ∙ (compare_code-OK _ _).1 (m.hash ∙ is.4 ∙ sym m.tag))),
)
