-- Stores: one name set, names added, and the tree that a store stands for.
use Rattle.argon2.proofs.Imports.{◌≡◌, ℕ, List, [], ◌∷◌, Option, Some, None, true, false, if◌then◌else◌, string_bytes, refl, sym, ap, ◌∙◌, arith, and_parts, is_eq-slice_cmp}
use Rattle.argon2.proofs.Imports.{bytes_eq-Decides, String, IsSome, slice_cmp, nat_list_cmp_total, nat_list_eq_equiv, empty, get, insert, entries, entries-from_sorted, find, from_sorted}
use Rattle.argon2.proofs.Imports.{get-from_sorted, is_sorted, get-empty, get-from_entries, get-insert, same_map, slice_cmp-IsAntisymmetric, nat_cmp-IsAntisymmetric, AllByRecursion, is_some}
use Rattle.argon2.proofs.Imports.{option_map, option_or, is_lt, nat_cmp, phc_of, Phc, PasswordHash, Store, KeepsOthers, with_texts, named_values, values_of}
use Rattle.std.specs.BTreeMap.{BTreeMap, IsOrdered, is_at, get_by_text}
use Rattle.std.specs.FinMap.Entries.{below_all}
use Rattle.std.specs.List.Sorted.{IsStrictlySortedBy}
use Rattle.std.specs.Map.{update, lookup, keys_of}
use Rattle.std.specs.Cmp.{Equal-is}
use Rattle.std.specs.declared.cmp.Ordering.TheVariants.{Equal, Less}
use Rattle.std.specs.String.{string_cmp}
use Rattle.std.specs.Str.{bytes_eq}
use Rattle.argon2.proofs.params_lemmas.ListReading.{or_none}

-- what a store with one name set has
pub get-set : (m : Store) (n : List ℕ) (v : Phc) (q : List ℕ) →
    get (insert m n v) q ≡ (if bytes_eq q n then Some v else get m q)
get-set m n v q =
    get-insert nat_list_cmp_total m n v q ∙ ap (λ b. if b then Some v else get m q) (is_eq-slice_cmp q n)

-- a store with a name set has the text of that name
pub get-same : (m : Store) (n : List ℕ) (v : Phc) → get (insert m n v) n ≡ Some v
get-same m n v =
    get-set m n v n ∙ ap (λ b. if b then Some v else get m n) ((bytes_eq-Decides n n).1 refl)

-- what it has under any other name stays
pub get-other : (m : Store) (n : List ℕ) (v : Phc) → KeepsOthers n m (insert m n v)
get-other m n v q differs = let set = get-set m n v q in let same = (bytes_eq-Decides q n).0 in grind arith

-- setting the text that a name has changes nothing
pub insert-same : (m : Store) (n : List ℕ) (v : Phc) → get m n ≡ Some v → insert m n v ≡ m
insert-same m n v has =
    same_map nat_list_cmp_total (slice_cmp-IsAntisymmetric nat_cmp-IsAntisymmetric) _ _ (λ q.
    let set = get-set m n v q in let same = (bytes_eq-Decides q n).0 in grind arith)

-- ---- names that are added

-- a name that stands before all others is not among them
none_below : (n q : List ℕ) (es : List (List ℕ × Phc)) → slice_cmp nat_cmp q n ≡ Equal →
    below_all (slice_cmp nat_cmp) n es ≡ true → find (slice_cmp nat_cmp) q es ≡ None
none_below n q [] e h = refl
none_below n q (x ∷ es) e h =
    let parts = and_parts (is_lt (slice_cmp nat_cmp n x.0)) _ h in
    let same = nat_list_cmp_total.congr q n x.0 e in
    let rest = none_below n q es e parts.1 in
    grind arith

-- what a store has after names in order are added
get-added : (es : List (List ℕ × Phc)) (m : Store) (q : List ℕ) → is_sorted (slice_cmp nat_cmp) es ≡ true →
    get (with_texts es m) q ≡ option_or (find (slice_cmp nat_cmp) q es) (get m q)
get-added [] m q h = refl
get-added (x ∷ es) m q h =
    let parts = and_parts (below_all (slice_cmp nat_cmp) x.0 es) _ h in
    let rest = get-added es (insert m x.0 x.1) q parts.1 in
    let set = get-insert nat_list_cmp_total m x.0 x.1 q in
    let none = none_below x.0 q es in
    let hit = Equal-is (slice_cmp nat_cmp q x.0) in
    grind arith

module _ {Y : Type 0} where
  find_named : (es : List (String Y × PasswordHash)) (q : List ℕ) →
      find (slice_cmp nat_cmp) q (named_values es)
      ≡ option_map phc_of (lookup (is_at (λ k. slice_cmp nat_cmp q (string_bytes k))) es)
  find_named [] q = refl
  find_named (e ∷ es) q = let rest = find_named es q in grind arith

  -- the store has what the tree has
  pub get-values_of : (m : BTreeMap (String Y) PasswordHash) (q : List ℕ) →
      get (values_of m) q ≡ option_map phc_of (get_by_text m q)
  get-values_of m q =
      get-from_entries nat_list_cmp_total (named_values m.entries) q
      ∙ find_named m.entries q

  -- a text that the tree has, or has not, is the store's
  pub get-found : (m : BTreeMap (String Y) PasswordHash) (q : List ℕ) (o : Option PasswordHash) →
      get_by_text m q ≡ o → get (values_of m) q ≡ option_map phc_of o
  get-found m q o e = get-values_of m q ∙ ap (option_map phc_of) e

  -- trees that differ at one name are stores that differ there
  pub values_of-set : (m n : BTreeMap (String Y) PasswordHash) (name : List ℕ) (h : PasswordHash) →
      ((q : List ℕ) → get_by_text n q ≡ update bytes_eq (get_by_text m) name (Some h) q) →
      values_of n ≡ insert (values_of m) name (phc_of h)
  values_of-set m n name h e =
      same_map nat_list_cmp_total (slice_cmp-IsAntisymmetric nat_cmp-IsAntisymmetric) _ _ (λ q.
      let set = get-set (values_of m) name (phc_of h) q in
      let same = nat_list_eq_equiv.symm name q in
      grind (arith, get-values_of n q, get-values_of m q, e q))

  -- a name that the tree has, and a name that the tree lacks
  pub present : (m : BTreeMap (String Y) PasswordHash) (q : List ℕ) → is_some (get_by_text m q) ≡ true →
      IsSome (get (values_of m) q)
  present m q h = let has = get-values_of m q in grind arith

  pub absent : (m : BTreeMap (String Y) PasswordHash) (q : List ℕ) → is_some (get_by_text m q) ≡ false →
      get (values_of m) q ≡ None
  absent m q h = let has = get-values_of m q in grind arith

  -- ---- the texts in order

  below_named : (k : String Y) (es : List (String Y × PasswordHash)) →
      AllByRecursion (λ other. string_cmp k other ≡ Less) (keys_of es) →
      below_all (slice_cmp nat_cmp) (string_bytes k) (named_values es) ≡ true
  below_named k [] h = refl
  below_named k (e ∷ es) h = rw (h.0, below_named k es h.1) refl

  sorted_named : (es : List (String Y × PasswordHash)) → IsStrictlySortedBy string_cmp (keys_of es) →
      is_sorted (slice_cmp nat_cmp) (named_values es) ≡ true
  unfolding IsStrictlySortedBy
  sorted_named [] h = refl
  sorted_named (e ∷ es) h = rw (below_named e.0 es h.0, sorted_named es h.1) refl

  -- the store's entries are the tree's
  pub entries-values_of : (m : BTreeMap (String Y) PasswordHash) → IsOrdered string_cmp m →
      entries (values_of m) ≡ named_values m.entries
  entries-values_of m ordered =
      let sorted = sorted_named m.entries ordered in
      let es = named_values m.entries in
      let same = same_map nat_list_cmp_total (slice_cmp-IsAntisymmetric nat_cmp-IsAntisymmetric) (values_of m) (from_sorted es)
      (λ q. get-from_entries nat_list_cmp_total es q ∙ sym (get-from_sorted (slice_cmp nat_cmp) es q (rw sorted tt))) in
      ap entries same ∙ entries-from_sorted (slice_cmp nat_cmp) es (rw sorted tt)

  -- adding them to a store without names gives the store again
  pub added-values_of : (m : BTreeMap (String Y) PasswordHash) → IsOrdered string_cmp m →
      with_texts (named_values m.entries) empty ≡ values_of m
  added-values_of m ordered =
      let es = named_values m.entries in
      same_map nat_list_cmp_total (slice_cmp-IsAntisymmetric nat_cmp-IsAntisymmetric) _ _ (λ q.
      get-added es empty q (sorted_named m.entries ordered)
      ∙ ap (option_or (find (slice_cmp nat_cmp) q es)) (get-empty (slice_cmp nat_cmp) q)
      ∙ or_none _ ∙ sym (get-from_entries nat_list_cmp_total es q))
