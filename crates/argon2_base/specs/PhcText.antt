-- Parameter lists and PHC texts: which values there are, and the one spelling of each.
use Rattle.std.specs.Prelude.{ℕ, List, ◌≡◌, ◌==◌, ◌&&◌, not, Bool, true, false, [], ◌∷◌, ◌++◌, length, map, codes, nat_le, if◌then◌else◌, IsTrue, Option, Some, None, is_none, ◌<◌, ◌≤◌, ◌^◌, nat_eq, IfSome, IsSome}
use Rattle.std.specs.List.{AllByRecursion, list_all, join_with_byte, slice_split, flat_map}
use Rattle.std.specs.Str.{bytes_eq}
use Rattle.std.specs.Borrow.{Bor}
use Rattle.std.specs.Cmp.{IsEquivalence, and_equiv, on_equiv, nat_eq_equiv}
use Rattle.std.specs.Cmp.Lexicographic.{pointwise, lists_equiv, nat_list_eq_equiv, options_equiv}
use Rattle.std.specs.Fmt.{decimal}
use Rattle.std.specs.Option.{option_eq}
use Rattle.argon2_base.specs.ByteList.{list_bytes}
use Rattle.argon2_base.specs.declared.phc.ident.Ident.{Ident}
use Rattle.argon2_base.specs.Texts.{IsBytes, is_name, is_value, strict_base64}

-- ---- identifiers

-- the characters of an identifier
abbrev pub ident_text : Ident → List ℕ
ident_text i = list_bytes i.bytes

-- ---- parameter lists

-- a name and a value
abbrev pub Pair : Type 0
Pair = List ℕ × List ℕ

-- `name=value`
abbrev pub item : Pair → List ℕ
item p = p.0 ++ 61 ∷ p.1

-- the items, joined by `,`
abbrev pub params_text : List Pair → List ℕ
params_text ps = join_with_byte 44 (map item ps)

-- the value of a name
abbrev pub value_of : List ℕ → List Pair → Option (List ℕ)
value_of name [] = None
value_of name (p ∷ ps) = if bytes_eq p.0 name then Some p.1 else value_of name ps

-- no name stands twice
abbrev pub are_distinct : List Pair → Bool
are_distinct [] = true
are_distinct (p ∷ ps) = is_none (value_of p.0 ps) && are_distinct ps

-- a name that isn't `v`, and a value
abbrev pub is_param : Pair → Bool
is_param p = is_name p.0 && not (bytes_eq p.0 (codes "v")) && is_value p.1

-- parameters with distinct names, whose text has at most 127 bytes
abbrev pub are_params : List Pair → Bool
are_params ps = list_all is_param ps && are_distinct ps && nat_le (length (params_text ps)) 127

-- the text is the list's
abbrev pub IsParamsText : List ℕ → List Pair → Type 0
IsParamsText text ps = IsTrue (are_params ps) × (text ≡ params_text ps)

-- whether two lists have the same names and values in the same order
abbrev pub pairs_eq : List Pair → List Pair → Bool
pairs_eq = pointwise (λ p q. bytes_eq p.0 q.0 && bytes_eq p.1 q.1)

pub pairs_eq_equiv : IsEquivalence pairs_eq
pairs_eq_equiv = lists_equiv (and_equiv (on_equiv (λ (p : Pair). p.0) nat_list_eq_equiv)
    (on_equiv (λ (p : Pair). p.1) nat_list_eq_equiv))

-- ---- what a text says

-- the text lacks the byte
abbrev pub Lacks : ℕ → List ℕ → Type 0
Lacks c text = AllByRecursion (λ x. (x == c) ≡ false) text

-- what is before and after the first such byte, if there is one
abbrev pub IsCut : ℕ → List ℕ → Option (Bor (List ℕ) × Bor (List ℕ)) → Type 0
IsCut c text None = Lacks c text
IsCut c text (Some x) = (text ≡ x.0.now ++ c ∷ x.1.now) × Lacks c x.0.now

-- the parts at the first `=`
abbrev pub pair_of : List ℕ → Pair
pair_of [] = ([], [])
pair_of (c ∷ s) = if c == 61 then ([], s) else (c ∷ (pair_of s).0, (pair_of s).1)

-- the parts between the `,`
abbrev pub items_of : List ℕ → List (List ℕ)
items_of text = slice_split (λ b. b == 44) text

-- the names and values of the parts; the empty text has none
abbrev pub pairs_of : List ℕ → List Pair
pairs_of [] = []
pairs_of (c ∷ s) = map pair_of (items_of (c ∷ s))

-- the parts of what is left, if anything is
abbrev pub items_left : Option (Bor (List ℕ)) → List (List ℕ)
items_left None = []
items_left (Some rest) = items_of rest.now

-- the names and values of what is left
abbrev pub pairs_left : Option (Bor (List ℕ)) → List Pair
pairs_left left = map pair_of (items_left left)

-- the text of a list with one more parameter
abbrev pub with_item : List ℕ → Pair → List ℕ
with_item [] p = item p
with_item (c ∷ text) p = (c ∷ text) ++ 44 ∷ item p

-- ---- PHC texts

-- what a PHC text says
pub record Phc : Type 0 where
  pub algorithm : List ℕ
  pub version : Option ℕ
  pub params : List Pair
  pub salt : Option (List ℕ)
  pub hash : Option (List ℕ)

-- the value with these parts
abbrev pub phc_with : Ident → Option ℕ → List Pair → Option (List ℕ) → Option (List ℕ) → Phc
phc_with algorithm version params salt hash = record {
  algorithm = ident_text algorithm;
  version = version;
  params = params;
  salt = salt;
  hash = hash;
}

-- a field if there is a value
abbrev pub field : {X : Type 0} → (X → List ℕ) → Option X → List (List ℕ)
field spell None = []
field spell (Some x) = spell x ∷ []

-- a field if there are parameters
abbrev pub list_field : List Pair → List (List ℕ)
list_field [] = []
list_field (p ∷ ps) = params_text (p ∷ ps) ∷ []

-- `v=` and the number
abbrev pub version_text : ℕ → List ℕ
version_text n = item (codes "v", decimal n)

-- the fields, in their order
abbrev pub fields : Phc → List (List ℕ)
fields v = v.algorithm ∷ (field version_text v.version ++ (list_field v.params
    ++ (field strict_base64 v.salt ++ field strict_base64 v.hash)))

-- each field after a `$`
abbrev pub fields_text : List (List ℕ) → List ℕ
fields_text fs = flat_map (λ f. 36 ∷ f) fs

-- the text of a value
abbrev pub phc_text : Phc → List ℕ
phc_text v = fields_text (fields v)

-- bytes, at least low and at most high of them
abbrev pub HasBytes : ℕ → ℕ → List ℕ → Type 0
HasBytes low high b = IsBytes b × (low ≤ length b) × (length b ≤ high)

-- the limits of the grammar
pub record IsPhc (v : Phc) : Type 0 where
  pub algorithm : IsTrue (is_name v.algorithm)
  pub version : IfSome v.version (λ n. n < 2 ^ 32)
  pub params : IsTrue (are_params v.params)
  pub salt : IfSome v.salt (HasBytes 8 48)
  pub hash : IfSome v.hash (HasBytes 4 64)
  pub salted : IsSome v.hash → IsSome v.salt

-- the text is the value's
abbrev pub IsPhcText : List ℕ → Phc → Type 0
IsPhcText text v = IsPhc v × (text ≡ phc_text v)

-- whether two values say the same
abbrev pub phc_eq : Phc → Phc → Bool
phc_eq v w = bytes_eq v.algorithm w.algorithm && option_eq nat_eq v.version w.version
    && pairs_eq v.params w.params && option_eq bytes_eq v.salt w.salt
    && option_eq bytes_eq v.hash w.hash

pub phc_eq_equiv : IsEquivalence phc_eq
phc_eq_equiv = and_equiv (and_equiv (and_equiv (and_equiv
    (on_equiv (λ (v : Phc). v.algorithm) nat_list_eq_equiv)
    (on_equiv (λ (v : Phc). v.version) (options_equiv nat_eq_equiv)))
    (on_equiv (λ (v : Phc). v.params) pairs_eq_equiv))
    (on_equiv (λ (v : Phc). v.salt) (options_equiv nat_list_eq_equiv)))
    (on_equiv (λ (v : Phc). v.hash) (options_equiv nat_list_eq_equiv))
