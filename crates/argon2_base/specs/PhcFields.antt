-- A PHC text, cut at its `$`.
use Rattle.std.specs.Prelude.{◌≡◌, ◌==◌, ℕ, List, [], ◌∷◌, ◌++◌, codes, Option, Some, None, Result, IfOk, IfErr, IfSome, IsNone, IsOkAnd}
use Rattle.std.specs.List.{slice_split}
use Rattle.std.specs.Borrow.{Bor}
use Rattle.argon2_base.specs.Texts.{strict_base64}
use Rattle.argon2_base.specs.PhcText.{HasBytes, Pair, Phc, field, item, phc_text, phc_with}
use Rattle.argon2_base.specs.declared.error.password_hash.Error.{Error}
use Rattle.argon2_base.specs.declared.error.password_hash.Error.TheVariants.{EncodingInvalid}
use Rattle.argon2_base.specs.declared.phc.hash.PasswordHash.{PasswordHash}

-- the parts between the `$`
abbrev pub fields_of : List ℕ → List (List ℕ)
fields_of text = slice_split (λ b. b == 36) text

-- the fields that are left, if any are
abbrev pub fields_left : Option (Bor (List ℕ)) → List (List ℕ)
fields_left None = []
fields_left (Some rest) = fields_of rest.now

-- no version stands first
abbrev pub HasNoVersionFirst : List (List ℕ) → Type 0
HasNoVersionFirst fs = (d : List ℕ) (more : List (List ℕ)) → fs ≡ item (codes "v", d) ∷ more → ⊥

-- no item stands first
abbrev pub HasNoItemFirst : List (List ℕ) → Type 0
HasNoItemFirst fs = (p : Pair) (more : List (List ℕ)) → fs ≡ item p ∷ more → ⊥

-- The answer of a reader of bytes, at least low and at most high of them, given the fields left: the
-- bytes if the first field is strict Base64 of such a number, none if no field is left, else a refusal.
pub record IsBytesField (low high : ℕ) (left : List (List ℕ))
    (r : Result (Option (List ℕ) × Option (Bor (List ℕ))) Error) : Type 0
  where
    pub found : IfOk r (λ x. (left ≡ field strict_base64 x.0 ++ fields_left x.1) × IfSome x.0 (HasBytes low high))
    pub end : IfOk r (λ x. IsNone x.0 → x.1 ≡ None)
    pub only : (o : Option (List ℕ)) (rest : List (List ℕ)) →
        IfSome o (HasBytes low high) → (IsNone o → rest ≡ []) → left ≡ field strict_base64 o ++ rest →
        IsOkAnd r (λ x. (x.0 ≡ o) × (fields_left x.1 ≡ rest))
    pub invalid : IfErr r (λ e. e ≡ EncodingInvalid)

-- ---- the value of the code

-- the fields of a `PasswordHash`, as its text has them
abbrev pub phc_of : PasswordHash → Phc
phc_of h = phc_with h.algorithm h.version h.params h.salt h.hash

-- its text
abbrev pub text_of : PasswordHash → List ℕ
text_of h = phc_text (phc_of h)
