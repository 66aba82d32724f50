-- A text in the grammar is UTF-8.
use Rattle.argon2_base.proofs.Imports.{common_steps, ◌≡◌, ℕ, ◌<◌, ◌^◌, T, ltb, true, List, [], ◌∷◌, ◌++◌, refl, arith, lit<, Option, Some, None, list_all, IsUtf8, and_parts, nat_tests}
use Rattle.argon2_base.proofs.Imports.{IsAscii-decimal, All-from_recursion, IsUtf8-append, IsUtf8-from_ascii, IsUtf8-nil, IsAscii-cons, IsAscii-from_all, IsAscii-nil, IsPhc, Pair, Phc}
use Rattle.argon2_base.proofs.Imports.{field, fields_text, is_param, item, list_field, params_text, phc_text, version_text, is_value, strict_base64}
use Rattle.std.proofs.Common.{append-nil}
use Rattle.argon2_base.proofs.phc_lemmas.Base64Lemmas.{IsUtf8-strict_base64}
use Rattle.argon2_base.proofs.phc_lemmas.Characters.{name_utf8, tests_give}
use Rattle.argon2_base.proofs.phc_lemmas.ParamsTextLemmas.{all_params, param_name, param_value}

-- text after an ASCII character is text
behind : {c : ℕ} {s : List ℕ} → T (ltb c 128) → IsUtf8 s → IsUtf8 (c ∷ s)
behind {c} {s} low =
    IsUtf8-append (c ∷ []) s (IsUtf8-from_ascii _ (IsAscii-cons c [] (lit< low) IsAscii-nil))

-- a value is text
value_utf8 : (s : List ℕ) → is_value s ≡ true → IsUtf8 s
value_utf8 s h = grind (
  arith,
  common_steps,
  IsUtf8-from_ascii,
  IsAscii-from_all,
  All-from_recursion,
  tests_give,
  nat_tests,
  and_parts,
)

-- an item is text
item_utf8 : (p : Pair) → is_param p ≡ true → IsUtf8 (item p)
item_utf8 p h = grind (arith, IsUtf8-append, name_utf8, param_name, behind, value_utf8, param_value)

-- items joined by `,` are text
items_utf8 : (p : Pair) (ps : List Pair) → list_all is_param (p ∷ ps) ≡ true
    → IsUtf8 (params_text (p ∷ ps))
items_utf8 p [] h = item_utf8 p (and_parts _ true h).0
items_utf8 p (q ∷ ps) h = grind (arith, item_utf8 p, items_utf8 q ps, behind, IsUtf8-append (item p))

-- a field, if there is one, before fields
field_utf8 : {X : Type 0} (spell : X → List ℕ) (o : Option X) (fs : List (List ℕ))
    → ((x : X) → o ≡ Some x → IsUtf8 (spell x)) → IsUtf8 (fields_text fs)
    → IsUtf8 (fields_text (field spell o ++ fs))
field_utf8 spell None fs h k = k
field_utf8 spell (Some x) fs h k = behind tt (IsUtf8-append (spell x) _ (h x refl) k)

-- parameters, if there are any, before fields
list_utf8 : (ps : List Pair) (fs : List (List ℕ)) → list_all is_param ps ≡ true
    → IsUtf8 (fields_text fs) → IsUtf8 (fields_text (list_field ps ++ fs))
list_utf8 [] fs h k = k
list_utf8 (p ∷ ps) fs h k = behind tt (IsUtf8-append (params_text (p ∷ ps)) _ (items_utf8 p ps h) k)

-- a PHC text is UTF-8
pub text_is_utf8 : (v : Phc) → IsPhc v → IsUtf8 (phc_text v)
text_is_utf8 v h = behind tt (IsUtf8-append v.algorithm _ (name_utf8 v.algorithm h.algorithm)
    (field_utf8 version_text v.version _ (λ n e. let small : n < 2 ^ 32 = rw e at h.version in
    behind tt (behind tt (IsUtf8-from_ascii _ (IsAscii-decimal n (omega arith)))))
    (list_utf8 v.params _ (all_params v.params h.params)
    (field_utf8 strict_base64 v.salt _ (λ b _. IsUtf8-strict_base64 b)
    (rw (append-nil _) at (field_utf8 strict_base64 v.hash [] (λ b _. IsUtf8-strict_base64 b) IsUtf8-nil))))))
