-- What a list says, and what longer lists are.
use Rattle.argon2_base.proofs.Imports.{◌≡◌, ℕ, ◌<◌, true, false, not, ◌&&◌, List, [], ◌∷◌, ◌++◌, length, map, refl, sym, ap, ◌∙◌, arith, ◌==◌, nat_le, length-append, nat_list_eq_equiv}
use Rattle.argon2_base.proofs.Imports.{and_parts, list_all, AllByRecursion, list_all-append, bytes_eq, is_none, is_some, is_name, is_value, is_name_char, is_value_char, Pair, item}
use Rattle.argon2_base.proofs.Imports.{params_text, value_of, are_distinct, is_param, are_params, pair_of, items_of, pairs_of, with_item}
use Rattle.std.proofs.Common.{append_assoc}
use Rattle.std.proofs.Math.Bool.{and-false, and-true}
use Rattle.argon2_base.proofs.phc_lemmas.Characters.{name_chars, lacks_by}
use Rattle.argon2_base.proofs.phc_lemmas.Separators.{Lacks, Lacks-append, cut_joined}

-- the parts of an item
pub pair_again : (n v : List ℕ) → Lacks 61 n → pair_of (n ++ 61 ∷ v) ≡ (n, v)
pair_again [] v h = refl
pair_again (c ∷ n) v h = rw (h.0, pair_again n v h.1) refl

-- ---- the parts of one parameter

-- the name of a parameter is a name
pub param_name : (p : Pair) → is_param p ≡ true → is_name p.0 ≡ true
param_name p h = (and_parts (is_name p.0) _ (and_parts _ (is_value p.1) h).0).0

-- the value of a parameter is a value
pub param_value : (p : Pair) → is_param p ≡ true → is_value p.1 ≡ true
param_value p h = (and_parts _ (is_value p.1) h).1

-- a name lacks what is no character of names
pub name_lacks : (c : ℕ) → is_name_char c ≡ false → (s : List ℕ) → is_name s ≡ true → Lacks c s
name_lacks c fails s h = lacks_by is_name_char c fails s (name_chars s h)

-- an item lacks what is in no name and no value, and is no `=`
pub item_lacks : (c : ℕ) → is_name_char c ≡ false → is_value_char c ≡ false → (61 == c) ≡ false → (p : Pair)
    → is_param p ≡ true → Lacks c (item p)
item_lacks c a b d p h = grind (arith, Lacks-append, name_lacks, param_name, lacks_by, and_parts, param_value)

-- items have no `,`
pub items_lack : (ps : List Pair) → list_all is_param ps ≡ true → AllByRecursion (Lacks 44) (map item ps)
items_lack [] h = tt
items_lack (p ∷ ps) h = grind (arith, item_lacks 44 refl refl refl p, items_lack ps)

-- items are read as their parameters
pub map_again : (ps : List Pair) → list_all is_param ps ≡ true → map pair_of (map item ps) ≡ ps
map_again [] h = refl
map_again (p ∷ ps) h = grind (arith, pair_again p.0 p.1, name_lacks 61 refl p.0, param_name p, map_again ps)

-- ---- the whole list

-- each of a list is a parameter
pub all_params : (ps : List Pair) → are_params ps ≡ true → list_all is_param ps ≡ true
all_params ps h = (and_parts (list_all is_param ps) _ (and_parts _ (nat_le (length (params_text ps)) 127) h).0).0

-- a text that isn't empty has the pairs of its parts
pub pairs_of_items : (t : List ℕ) → 0 < length t → pairs_of t ≡ map pair_of (items_of t)
pairs_of_items t h = grind arith

-- an item is not empty
item_long : (p : Pair) → 0 < length (item p)
item_long p = omega (arith, length-append p.0 (61 ∷ p.1))

-- the text of a list with a parameter is not empty
pub text_long : (p : Pair) (ps : List Pair) → 0 < length (params_text (p ∷ ps))
text_long p [] = item_long p
text_long p (q ∷ ps) = omega (arith, item_long p, length-append (item p) (44 ∷ params_text (q ∷ ps)))

-- what a list's text says is the list
pub pairs_again : (ps : List Pair) → list_all is_param ps ≡ true → pairs_of (params_text ps) ≡ ps
pairs_again [] h = refl
pairs_again (p ∷ ps) h =
    grind (arith, pairs_of_items, text_long p ps, cut_joined 44 (item p) (map item ps), items_lack (p ∷ ps), map_again (p ∷ ps))

-- ---- a list with one more

-- an item after other text
with_item_some : (t : List ℕ) (p : Pair) → 0 < length t → with_item t p ≡ t ++ 44 ∷ item p
with_item_some t p h = grind arith

-- the text of a list with one more parameter
pub params_text-more : (ps : List Pair) (p : Pair) → params_text (ps ++ p ∷ []) ≡ with_item (params_text ps) p
params_text-more [] p = refl
params_text-more (q ∷ []) p = sym (with_item_some (item q) p (item_long q))
params_text-more (q ∷ r ∷ ps) p =
    rw (with_item_some _ p (text_long q (r ∷ ps)), params_text-more (r ∷ ps) p, with_item_some _ p (text_long r ps))
    (sym (append_assoc (item q) (44 ∷ params_text (r ∷ ps)) (44 ∷ item p)))

-- whether a list has a name
value_of-more : (n : List ℕ) (ps : List Pair) (p : Pair)
    → is_none (value_of n (ps ++ p ∷ [])) ≡ (is_none (value_of n ps) && not (bytes_eq p.0 n))
value_of-more n [] p = grind arith
value_of-more n (q ∷ ps) p = let more = value_of-more n ps p in grind arith

-- whether names are distinct with one more
pub are_distinct-more : (ps : List Pair) (p : Pair) → are_distinct (ps ++ p ∷ []) ≡ (are_distinct ps && is_none (value_of p.0 ps))
are_distinct-more [] p = refl
are_distinct-more (q ∷ ps) p =
    rw (value_of-more q.0 ps p, are_distinct-more ps p, nat_list_eq_equiv.symm p.0 q.0) (grind arith)

-- whether all are parameters with one more
list_all-more : (ps : List Pair) (p : Pair) → list_all is_param (ps ++ p ∷ []) ≡ (list_all is_param ps && is_param p)
list_all-more ps p = list_all-append is_param ps (p ∷ []) ∙ ap (λ b. list_all is_param ps && b) (and-true (is_param p))

-- when a list may get one more
pub are_params-more : (ps : List Pair) (p : Pair) → are_params ps ≡ true
    → are_params (ps ++ p ∷ [])
    ≡ ((is_param p && is_none (value_of p.0 ps)) && nat_le (length (with_item (params_text ps) p)) 127)
are_params-more ps p h = rw (list_all-more ps p, are_distinct-more ps p, params_text-more ps p) (search arith)

-- ---- where an item is cut

-- what has no `=` is a name without a value
pub pair_of_name : (n : List ℕ) → Lacks 61 n → pair_of n ≡ (n, [])
pair_of_name [] h = refl
pair_of_name (c ∷ n) h = rw (h.0, pair_of_name n h.1) refl

-- ---- one more parameter, or a refusal

-- a list with what is no parameter is refused
pub refused_param : (ps : List Pair) (p : Pair) → is_param p ≡ false → false ≡ are_params (ps ++ p ∷ [])
refused_param ps p h = rw (list_all-more ps p, h, and-false) refl

-- a list with a name twice is refused
pub refused_name : (ps : List Pair) (p : Pair) → is_some (value_of p.0 ps) ≡ true → false ≡ are_params (ps ++ p ∷ [])
refused_name ps p h = rw (are_distinct-more ps p) (grind arith)

-- a text to which an item was added says one more parameter
pub more_again : (text : List ℕ) (p : Pair) → text ≡ params_text (pairs_of text) → are_params (pairs_of text ++ p ∷ []) ≡ true
    → (pairs_of (with_item text p) ≡ pairs_of text ++ p ∷ []) × (with_item text p ≡ params_text (pairs_of text ++ p ∷ []))
more_again text p is good =
    let whole : with_item text p ≡ params_text (pairs_of text ++ p ∷ []) = rw (params_text-more (pairs_of text) p, ← is) refl in
    (ap pairs_of whole ∙ pairs_again (pairs_of text ++ p ∷ []) (all_params (pairs_of text ++ p ∷ []) good), whole)
