-- Reading a list item by item.
use Rattle.argon2_base.proofs.Imports.{◌≡◌, ℕ, ◌<◌, ◌≤◌, true, false, ◌&&◌, List, [], ◌∷◌, ◌++◌, length, map, refl, sym, ap, ◌∙◌, arith, nat_le, length-append, nat_tests, and_parts}
use Rattle.argon2_base.proofs.Imports.{list_all-append, join_with_byte-slice_split, list_all, is_none, Pair, item, params_text, value_of, are_distinct, is_param, are_params, IsParamsText}
use Rattle.argon2_base.proofs.Imports.{pair_of, items_of, pairs_of}
use Rattle.argon2_base.proofs.phc_lemmas.ParamsTextLemmas.{all_params, pairs_again, param_value}

-- what a list's text says is the list
pub read_again : (text : List ℕ) (ps : List Pair) → IsParamsText text ps → pairs_of text ≡ ps
read_again text ps h = ap pairs_of h.1 ∙ pairs_again ps (all_params ps h.0)

-- two lists with one text are one
pub one_list : (text : List ℕ) (ps qs : List Pair) → IsParamsText text ps → IsParamsText text qs → ps ≡ qs
one_list text ps qs h k = sym (read_again text ps h) ∙ read_again text qs k

-- ---- a prefix of a list

-- a name that a list lacks, its front lacks
absent_front : (n : List ℕ) (a b : List Pair) → is_none (value_of n (a ++ b)) ≡ true → is_none (value_of n a) ≡ true
absent_front n [] b h = refl
absent_front n (p ∷ a) b h = let front = absent_front n a b in grind arith

-- the names of a prefix are distinct
distinct_front : (a b : List Pair) → are_distinct (a ++ b) ≡ true → are_distinct a ≡ true
distinct_front [] b h = refl
distinct_front (p ∷ a) b h =
    let absent = absent_front p.0 a b in
    let distinct = distinct_front a b in
    grind arith

-- the text of a prefix is no longer
text_front : (a b : List Pair) → length (params_text a) ≤ length (params_text (a ++ b))
text_front [] b = omega arith
text_front (q ∷ []) [] = omega arith
text_front (q ∷ []) (r ∷ b) = omega (arith, length-append (item q) (44 ∷ params_text (r ∷ b)))
text_front (q ∷ r ∷ a) b = omega (arith, text_front (r ∷ a) b, length-append {A = ℕ})

-- a prefix of a list in the grammar is in the grammar
pub params_front : (a b : List Pair) → are_params (a ++ b) ≡ true → are_params a ≡ true
params_front a b h = grind (arith, distinct_front, text_front, list_all-append, nat_tests)

-- ---- the length of a value

-- a value has a character
value_length : (p : Pair) → is_param p ≡ true → 0 < length p.1
value_length p h = let value = param_value p h in grind (arith, nat_tests)

-- what is longer is no value
pub long_value : (n v : List ℕ) → 64 < length v → is_param (n, v) ≡ false
long_value n v h = grind (arith, nat_tests)

-- ---- reading a text

-- what has a value is an item
item_again : (x : List ℕ) → 0 < length (pair_of x).1 → item (pair_of x) ≡ x
item_again [] h = absurd (omega arith)
item_again (c ∷ s) h = let again = item_again s in grind (arith, nat_tests)

-- parts that are read as parameters are their items
pub parts_again : (xs : List (List ℕ)) → list_all is_param (map pair_of xs) ≡ true → map item (map pair_of xs) ≡ xs
parts_again [] h = refl
parts_again (x ∷ xs) h = grind (arith, item_again x, value_length (pair_of x), parts_again xs)

-- the parts of a list's text are parameters with distinct names
pub good_items : (text : List ℕ) (ps : List Pair) → IsParamsText text ps
    → list_all is_param (pairs_of text) && are_distinct (pairs_of text) ≡ true
good_items text ps h = rw (read_again text ps h) (and_parts _ (nat_le (length (params_text ps)) 127) h.0).0

-- a text whose parts are parameters with distinct names is their list's
pub read_list : (text : List ℕ) → list_all is_param (pairs_of text) && are_distinct (pairs_of text) ≡ true
    → length text ≤ 127 → IsParamsText text (pairs_of text)
read_list [] good short = (refl, refl)
read_list (c ∷ s) good short =
    let all = (and_parts (list_all is_param (pairs_of (c ∷ s))) _ good).0 in
    let joined = join_with_byte-slice_split 44 (c ∷ s) in
    grind (arith, nat_tests, parts_again (items_of (c ∷ s)) all)
