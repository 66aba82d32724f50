-- The fields of a text, and the text of the fields.
use Rattle.argon2_base.proofs.Imports.{◌≡◌, ◌≢◌, ℕ, ◌<◌, ◌^◌, true, false, List, [], ◌∷◌, ◌++◌, length, refl, sym, ap, ◌∙◌, arith, Option, Some, None, codes, ◌==◌, ◌+◌, drop, and_parts}
use Rattle.argon2_base.proofs.Imports.{IfSome, IsSome, IsNone, is_some, Bor, join_with_byte-slice_split, length-slice_split, list_all, flat_map, AllByRecursion, join_with_byte, decimal}
use Rattle.argon2_base.proofs.Imports.{IsBytes, is_value_char, strict_base64, HasBytes, IsPhc, Pair, Phc, IsPhcText, are_params, field, fields, is_param, item, list_field, params_text}
use Rattle.argon2_base.proofs.Imports.{phc_text, version_text, fields_of, fields_left, HasNoVersionFirst, HasNoItemFirst}
use Rattle.std.proofs.Common.{append_assoc}
use Rattle.std.proofs.lemmas.List.{append-nil}
use Rattle.std.specs.Str.Pattern.{FindsCharPrefix}
use Rattle.argon2_base.proofs.phc_lemmas.Base64Lemmas.{decode_of-strict_base64, length-strict_base64, refused_text, strict_base64_unique}
use Rattle.argon2_base.proofs.phc_lemmas.Characters.{lacks_by}
use Rattle.argon2_base.proofs.phc_lemmas.Separators.{Lacks, Lacks-append, Lacks_not, all-append, cut_joined}
use Rattle.argon2_base.proofs.phc_lemmas.ParamsTextLemmas.{all_params, name_lacks, item_lacks, pair_again, param_name}
use Rattle.argon2_base.proofs.phc_lemmas.ValueCharacters.{decimal_chars, base64_chars}

-- ---- no field has a `$`

-- a list's text has no `$`
params_text_lacks : (ps : List Pair) → list_all is_param ps ≡ true → Lacks 36 (params_text ps)
params_text_lacks [] h = tt
params_text_lacks (p ∷ []) h = item_lacks 36 refl refl refl p (and_parts (is_param p) true h).0
params_text_lacks (p ∷ q ∷ ps) h = grind (arith, item_lacks 36 refl refl refl p, Lacks-append 36, params_text_lacks (q ∷ ps))

-- strict Base64 lacks what is no character of values
base64_lacks : (c : ℕ) → is_value_char c ≡ false → (b : List ℕ) → IsBytes b → Lacks c (strict_base64 b)
base64_lacks c fails b bytes = lacks_by is_value_char c fails (strict_base64 b) (base64_chars b bytes)

-- a decimal has no `$`
decimal_lacks : (n : ℕ) → n < 2 ^ 32 → Lacks 36 (decimal n)
decimal_lacks n small = lacks_by is_value_char 36 refl (decimal n) (decimal_chars n (omega arith))

-- no field has a `$`
fields_lack : (v : Phc) → IsPhc v → AllByRecursion (Lacks 36) (fields v)
fields_lack v h =
    grind (
      arith,
      name_lacks 36 refl v.algorithm,
      all-append,
      decimal_lacks,
      base64_lacks 36 refl,
      params_text_lacks v.params,
      all_params v.params,
    )

-- ---- the fields joined

-- fields after a `$` each are fields joined by `$` after one
pub flat_map-dollar : (x : List ℕ) (xs : List (List ℕ))
    → flat_map (λ f. 36 ∷ f) (x ∷ xs) ≡ 36 ∷ join_with_byte 36 (x ∷ xs)
flat_map-dollar x [] = ap (λ (t : List ℕ). 36 ∷ t) (append-nil x)
flat_map-dollar x (y ∷ xs) = ap (λ (t : List ℕ). 36 ∷ (x ++ t)) (flat_map-dollar y xs)

-- the fields after the version
abbrev pub from_params : Phc → List (List ℕ)
from_params v = list_field v.params ++ (field strict_base64 v.salt ++ field strict_base64 v.hash)

-- the fields after the parameters
abbrev pub from_salt : Phc → List (List ℕ)
from_salt v = field strict_base64 v.salt ++ field strict_base64 v.hash

-- what a text that is in the grammar begins with
pub first_and_left : (text : List ℕ) (t : Bor (List ℕ)) {first : List ℕ} {left : List (List ℕ)} (v : Phc)
    → IsPhcText text v → (n : ℕ) × FindsCharPrefix 36 text (Some n) × (t.now ≡ drop n text)
    × (length t.now + n ≡ length text) → fields_of t.now ≡ first ∷ left
    → (first ≡ v.algorithm) × (left ≡ field version_text v.version ++ from_params v)
first_and_left text t v h cases f =
    let behind : List (List ℕ) = field version_text v.version ++ from_params v in
    let same = flat_map-dollar v.algorithm behind in
    let cut = cut_joined 36 v.algorithm behind (fields_lack v h.0) in
    (cc h.1, cc h.1)

-- the text of the fields that were read one by one
pub text_of_fields : (text t : List ℕ) {first : List ℕ} (v : Phc) {f0 f1 f2 : List (List ℕ)} → text ≡ 36 ∷ t
    → fields_of t ≡ first ∷ f0 → v.algorithm ≡ first → f0 ≡ field version_text v.version ++ f1
    → f1 ≡ list_field v.params ++ f2 → f2 ≡ from_salt v → text ≡ phc_text v
text_of_fields text t v e f a e1 e2 e3 =
    grind (arith, join_with_byte-slice_split 36 t, flat_map-dollar)

-- ---- which field comes next

-- a list's text is an item, whose value may have more items in it
pub text_item : (p : Pair) (ps : List Pair) → (value : List ℕ) × (params_text (p ∷ ps) ≡ item (p.0, value))
text_item p [] = (p.1, refl)
text_item p (q ∷ ps) = (p.1 ++ 44 ∷ params_text (q ∷ ps), append_assoc p.0 (61 ∷ p.1) (44 ∷ params_text (q ∷ ps)))

-- strict Base64 is no item
base64_no_item : (b : List ℕ) (p : Pair) → IsBytes b → strict_base64 b ≡ item p → ⊥
base64_no_item b p bytes e = grind (arith, base64_lacks 61 refl b, Lacks_not 61 p.0 p.1)

-- a salt, or a hash in its place, is no item
bytes_no_item : (o r : Option (List ℕ)) → IfSome o (HasBytes 8 48) → IfSome r (HasBytes 4 64)
    → HasNoItemFirst (field strict_base64 o ++ field strict_base64 r)
bytes_no_item o r h k p more e = grind (arith, base64_no_item)

-- after the parameters there is no item
pub no_item : (v : Phc) → IsPhc v → HasNoItemFirst (from_salt v)
no_item v h = bytes_no_item v.salt v.hash h.salt h.hash

-- a list is no version
list_no_version : (ps : List Pair) (rest : List (List ℕ)) → are_params ps ≡ true → HasNoItemFirst rest
    → HasNoVersionFirst (list_field ps ++ rest)
list_no_version [] rest h k d more e = k (codes "v", d) more e
list_no_version (p ∷ ps) rest h k d more e =
    let t = text_item p ps in
    grind (arith, pair_again p.0 t.0, name_lacks 61 refl p.0, param_name p, all_params (p ∷ ps))

-- after the version there is no version
pub no_version : (v : Phc) → IsPhc v → HasNoVersionFirst (from_params v)
no_version v h = list_no_version v.params (from_salt v) h.params (no_item v h)

-- without a salt there is no hash
pub none_after : (s o : Option (List ℕ)) → (IsSome o → IsSome s) → IsNone s → field strict_base64 o ≡ []
none_after s o h n = grind arith

-- ---- the field that is read

-- what is no item is no list
pub no_list_read : (f : List ℕ) (more rest : List (List ℕ)) (ps : List Pair) → ((p : Pair) → f ≢ item p)
    → f ∷ more ≡ list_field ps ++ rest → (◌≡◌ {A = List Pair} [] ps) × (f ∷ more ≡ rest)
no_list_read f more rest [] h e = (refl, e)
no_list_read f more rest (p ∷ ps) h e = grind (arith, text_item p ps, h (p.0, (text_item p ps).0))

-- an item begins a list
pub list_read : (f : List ℕ) (more rest : List (List ℕ)) (ps : List Pair) (p : Pair) → f ≡ item p → HasNoItemFirst rest
    → f ∷ more ≡ list_field ps ++ rest → (f ≡ params_text ps) × (more ≡ rest)
list_read f more rest [] p is k e = absurd (k p more (sym e ∙ ap (λ (x : List ℕ). x ∷ more) is))
list_read f more rest (q ∷ ps) p is k e = grind arith

-- bytes, and bytes with the same strict Base64, are one
pub base64_one : (b d : List ℕ) → IsBytes b → IsBytes d → strict_base64 b ≡ strict_base64 d → b ≡ d
base64_one b d bytes others e = strict_base64_unique (strict_base64 d) b d bytes (sym e) (decode_of-strict_base64 d others)

-- ---- the whole text

-- nothing is left if there is no field
pub left_none : (o : Option (Bor (List ℕ))) → fields_left o ≡ [] → is_some o ≡ false
left_none None e = refl
left_none (Some x) e = absurd (omega (arith, ap length e, length-slice_split (λ b. b == 36) x.now))

-- which bytes and which items stand first
pub ruleset field_steps = (
  base64_one,
  refused_text,
  length-strict_base64,
  text_item,
  Lacks_not,
  left_none,
  none_after,
  append-nil,
)
