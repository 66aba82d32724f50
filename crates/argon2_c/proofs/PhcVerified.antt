-- The calls that verify a text within a bound answer 0 if and only if the text is accepted.
use Rattle.std.proofs.Common.{◌≡◌, ◌⊎◌, ◌↔◌, inl, inr, ℕ, ◌-◌, List, Result, Ok, Some, length, arith, refl, sym, ap, ◌∙◌}
use Rattle.std.specs.Prelude.{replicate, take}
use Rattle.std.proofs.lemmas.List.{take_at}
use Rattle.argon2_base.specs.PhcText.{Phc}
use Rattle.argon2.specs.Argon2.{context_with}
use Rattle.argon2.specs.Rfc9106.{tag_of}
use Rattle.argon2.specs.StoredTexts.{StoredValue, stored_of}
use Rattle.argon2_c.specs.declared.code.TheConstants.{OK}
use Rattle.argon2_c.specs.PhcAdmission.{Admission}
use Rattle.argon2_c.specs.PhcShown.{Shows}
use Rattle.argon2_c.specs.Logins.{IsVerified}
use Rattle.argon2_c.specs.Verification.{BoundVerification, IsAcceptedWithin}
use Rattle.argon2_c.proofs.Compared.{compare_code-OK}
use Rattle.argon2_c.proofs.PhcAccepted.{AcceptsBy-tag, stored_by, stored_of-accepting}
use Rattle.argon2_c.proofs.PhcAdmitted.{IsAdmitCode-OK, stored_of-fields}

-- the first n bytes of a room that shows n bytes are these bytes
Shows-bytes : (most : ℕ) (bytes : List ℕ) {n : ℕ} {room : List ℕ} → Shows most bytes n room → take n room ≡ bytes
Shows-bytes most bytes {n} s = ap (take n) s.1 ∙ take_at bytes (replicate (most - length bytes) 0) n (sym s.0)

-- a room that shows n bytes has at least n bytes
Shows-length : (most : ℕ) (bytes : List ℕ) {n : ℕ} {room : List ℕ} → Shows most bytes n room → length (take n room) ≡ n
Shows-length most bytes s = ap length (Shows-bytes most bytes s) ∙ sym s.0

-- a key that is one of two secrets has the length of one of them
key-length : (key secret old_secret : List ℕ) → (key ≡ secret) ⊎ (key ≡ old_secret)
    → (length key ≡ length secret) ⊎ (length key ≡ length old_secret)
key-length key secret old_secret (inl is) = inl (ap length is)
key-length key secret old_secret (inr is) = inr (ap length is)

-- two values of one option are equal
Some-injective : {X : Type 0} {x y : X} → Some x ≡ Some y → x ≡ y
Some-injective is = grind arith

-- two values of one result are equal
pub Ok-injective : {X E : Type 0} {x y : X} (r : Result X E) → r ≡ Ok x → r ≡ Ok y → x ≡ y
Ok-injective r is other = grind arith

-- what admitting the text of a verification has found
abbrev AdmissionOf : BoundVerification → Phc → Type 0
AdmissionOf c v = Admission c.bound (length c.password) (length c.secret) (length c.old_secret) v c.shown

-- what the calls make of a text that is admitted: the hash that it shows, and the password's tag
record IsMade (c : BoundVerification) (stored : StoredValue) : Type 0 where
  hash : take c.shown.output_len c.shown.output ≡ stored.hash
  hashed : c.hashed ≡ OK
  tag : c.tag ≡ tag_of (context_with stored.settings c.key) c.password stored.salt (length stored.hash)

-- the calls make this of each text that is admitted
IsMade-admitted : (c : BoundVerification) (v : Phc) → c.admitted ≡ OK → (a : AdmissionOf c v) → IsMade c a.stored
IsMade-admitted c v ok a =
    let settings = a.settings in
    let stored = a.stored in
    let has = stored_of-fields v stored a.reads in
    let salt : Shows 48 stored.salt c.shown.salt_len c.shown.salt = rw (has.0) at a.fields.salt in
    let output : Shows 64 stored.hash c.shown.output_len c.shown.output = rw (has.1) at a.fields.output in
    let associated = stored.settings.parameters.associated in
    let tagged = c.hashes ok in
    let hashed = tagged.taken.1 (
      rw (c.size, Shows-length 48 stored.salt salt, Shows-length 32 associated settings.associated)
          (c.admits.faultless c.threads (length c.key) ok (key-length c.key c.secret c.old_secret c.is_key)),
      refl,
    ) in
    record {
      hash = Shows-bytes 64 stored.hash output;
      hashed = hashed;
      tag = rw (
        settings.algorithm,
        settings.version,
        settings.m_cost,
        settings.t_cost,
        settings.p_cost,
        c.size ∙ output.0,
        Shows-bytes 48 stored.salt salt,
        Shows-bytes 32 associated settings.associated,
      ) at (tagged.tagged hashed);
    }

-- the text is admitted
found : (c : BoundVerification) (ok : c.admitted ≡ OK) → AdmissionOf c (c.admits.found ok).0
found c ok =
    let text = c.admits.found ok in
    c.admits.admits text.0 ok text.1

-- an admitted text is hashed
pub IsVerified-hashed : (c : BoundVerification) → c.admitted ≡ OK → c.hashed ≡ OK
IsVerified-hashed c ok = (IsMade-admitted c _ ok (found c ok)).hashed

-- the calls answer 0 if and only if the text is accepted
pub IsVerified-accepted : (c : BoundVerification) → IsVerified c ↔ IsAcceptedWithin c
IsVerified-accepted c = (
  (λ all.
      let text = c.admits.found all.0 in
      let a = found c all.0 in
      let m = IsMade-admitted c text.0 all.0 a in
      let same = (compare_code-OK _ _).0 (sym (c.compares all.0 all.1) ∙ all.2) in
      let yes = AcceptsBy-tag c.key c.password text.0 a.stored a.reads a.lengths.2 (sym m.hash ∙ same ∙ m.tag) in
      let hash = Some-injective (sym yes.has_hash ∙ (stored_of-fields text.0 a.stored a.reads).1) in
      ((text.0, text.1, a.asks, yes), rw hash a.lengths.0, rw hash a.lengths.1, a.lengths.3, a.lengths.4)),
  (λ is.
      let v = is.0.0 in
      let by = is.0.3 in
      let reads = stored_of-accepting by in
      let ok = IsAdmitCode-OK c.bound (length c.password) (length c.secret) (length c.old_secret) v (stored_by by) c.admitted
      is.0.2 reads (is.1, is.2, by.short, is.3, is.4) (c.admits.said v is.0.1) in
      let a = c.admits.admits v ok is.0.1 in
      let m = IsMade-admitted c v ok a in
      let stored : a.stored ≡ stored_by by = Ok-injective (stored_of v) a.reads reads in
      let tag : a.stored.hash ≡ c.tag = rw stored (by.same_tag ∙ sym (rw stored at m.tag)) in
      (ok, m.hashed, c.compares ok m.hashed ∙ (compare_code-OK _ _).1 (m.hash ∙ tag))),
)
