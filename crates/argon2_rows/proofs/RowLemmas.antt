-- Maps of names, and their rows in a tree: one more, one less, sought by a name, and read one by one.
use Rattle.argon2_rows.proofs.Imports.{AllByRecursion, eq_by_cmp, IfSome, IsUtf8, AreTexts, changed, ◌≡◌, ◌≢◌, ℕ, List, Option, Some, None, Bool, true, false, cond, refl, sym, ap, ◌∙◌}
use Rattle.argon2_rows.proofs.Imports.{bytes_eq-Decides, nat_list_cmp_total, get, get-insert, get-remove, insert, remove, same_entries_map, same_map, slice_cmp-IsAntisymmetric, Text}
use Rattle.argon2_rows.proofs.Imports.{nat_cmp-IsAntisymmetric, bytes_eq, Texts, arith, [], ◌∷◌, map, T, not, Ordering, tied_itself, slice_cmp, get-entries, entries, entries-insert}
use Rattle.argon2_rows.proofs.Imports.{entries_sorted, find, put, is_sorted, nat_cmp, ordering_then, plain, entry_cmp, Row, column, row_cmp, insert_entry, remove_entry, IsStorable}
use Rattle.argon2_rows.proofs.Imports.{row_of, rows_of, IsHuge, IsLong, prefix_cmp, Index, Forward, from_key, order_of, sought, View, Advances, with_cursor, IsAfterAll, IsFoundAs, Later, Name}
use Rattle.argon2_rows.proofs.Imports.{IsIndex, IsAccount, AreLines, ◌↔◌, entries-from_sorted, from_sorted, get-from_sorted, is_gt, alike_right, ⊤, doubt, unwrap_or}
use Rattle.std.specs.FinMap.Entries.{below_all}
use Rattle.sqlite_value.proofs.OrderLemmas.{value_cmp-Text}
use Rattle.sqlite_value.proofs.KeyLemmas.{entry_cmp_total, entry_cmp-plain}
use Rattle.std.proofs.lemmas.Map.Text.{is_eq-slice_cmp}
use Rattle.std.proofs.lemmas.Option.{same_Some}
use Rattle.sqlite_trees.proofs.Doubt.{never_clean, no_doubt}
use Rattle.sqlite_trees.proofs.TreeLemmas.{prefix_cmp-one}
use Rattle.std.specs.Float.Ieee

-- the text of a name after the text of one name was changed
pub get-changed_any : (m : Texts) (n q : List ℕ) (o : Option (List ℕ)) → get (changed m n o) q ≡ cond (bytes_eq q n) o (get m q)
get-changed_any m n q None = search (arith, get-remove nat_list_cmp_total m n q, is_eq-slice_cmp q n)
get-changed_any m n q (Some text) = search (arith, get-insert nat_list_cmp_total m n text q, is_eq-slice_cmp q n)

-- after a change of a name its text is the given one
pub get-changed : (m : Texts) (n : List ℕ) (o : Option (List ℕ)) → get (changed m n o) n ≡ o
get-changed m n o = grind (arith, get-changed_any m n n o, bytes_eq-Decides n n)

-- two maps in which each name has the same text are equal
Texts-extensional : (a b : Texts) → ((q : List ℕ) → get a q ≡ get b q) → a ≡ b
Texts-extensional = same_map nat_list_cmp_total (slice_cmp-IsAntisymmetric nat_cmp-IsAntisymmetric)

-- a change that gives a name its old text back restores the names
pub changed-restores : (m changed_m : Texts) (n : List ℕ) (o : Option (List ℕ))
    → ((q : List ℕ) → q ≢ n → get changed_m q ≡ get m q)
    → get m n ≡ o → changed changed_m n o ≡ m
changed-restores m changed_m n o kept has =
    Texts-extensional _ _ (λ q. grind (arith, get-changed_any changed_m n q o, kept q, bytes_eq-Decides q n))

-- a change of a name that was removed is a change of the name
pub changed-after_remove : (m : Texts) (n : List ℕ) (o : Option (List ℕ)) → changed (remove m n) n o ≡ changed m n o
changed-after_remove m n o =
    Texts-extensional _ _
    (λ q. grind (arith, get-changed_any (remove m n) n q o, get-changed_any m n q None, get-changed_any m n q o))

-- changes of two different names may change places
pub changed-commutes : (m : Texts) (n p : List ℕ) (o q : Option (List ℕ)) → n ≢ p
    → changed (changed m n o) p q ≡ changed (changed m p q) n o
changed-commutes m n p o q differ =
    Texts-extensional _ _ (λ k. grind (arith, get-changed_any, bytes_eq-Decides k n, bytes_eq-Decides k p))

-- names and texts stay UTF-8 if one name gets a text in UTF-8, or none
pub AreTexts-changed : (names : Texts) (name : List ℕ) (o : Option (List ℕ)) → AreTexts names → IsUtf8 name
    → IfSome o IsUtf8 → AreTexts (changed names name o)
AreTexts-changed names name o texts named good other text has =
    grind (arith, get-changed_any names name other o, texts other text, bytes_eq-Decides other name)

-- ---- the rows of names are the rows of one map

-- entries with the same rows are the same
map_row_of-injective : (es fs : List (List ℕ × List ℕ)) → map row_of es ≡ map row_of fs → es ≡ fs
map_row_of-injective [] [] one = refl
map_row_of-injective (e ∷ es) (f ∷ fs) one = grind (arith, map_row_of-injective es fs)
map_row_of-injective es fs one = absurd cc

-- names with the same rows are the same
pub rows_of-injective : (a b : Texts) → rows_of a ≡ rows_of b → a ≡ b
rows_of-injective a b one = same_entries_map a b (map_row_of-injective (entries a) (entries b) one)

-- ---- the rows of names, if one name more is set or one is taken out, and which rows are too long

-- names are ordered by their bytes
abbrev pub order : List ℕ → List ℕ → Ordering
order = slice_cmp nat_cmp

-- two rows compare by their names, and then by their texts
row_cmp-row_of : (e f : List ℕ × List ℕ) → entry_cmp plain (row_of e) (row_of f)
    ≡ ordering_then (order e.0 f.0) (row_cmp (Text e.1 ∷ []) (Text f.1 ∷ []))
row_cmp-row_of e f = search (arith, entry_cmp-plain, value_cmp-Text)

-- inserting the row of a new name among the rows of entries puts the name among the entries
insert_entry-map : (k v : List ℕ) (es : List (List ℕ × List ℕ)) → find order k es ≡ None
    → insert_entry plain (row_of (k, v)) (map row_of es) ≡ map row_of (put order k v es)
insert_entry-map k v [] none = refl
insert_entry-map k v (e ∷ es) none =
    grind (arith, nat_list_cmp_total.antisymm k e.0, row_cmp-row_of e (k, v), insert_entry-map k v es)

-- inserting the row of a new name gives the rows of the names with this name
pub insert_entry-rows_of : (names : Texts) (name v : List ℕ) → get names name ≡ None
    → insert_entry plain (row_of (name, v)) (rows_of names) ≡ rows_of (insert names name v)
insert_entry-rows_of names name v none = search (arith, insert_entry-map, get-entries, entries-insert, nat_list_cmp_total)

-- removing the row of a name from the rows of entries takes out this name, and nothing if the name is new
remove_entry-map : (k u : List ℕ) (es : List (List ℕ × List ℕ)) → find order k es ≡ None
    → (remove_entry plain (row_of (k, u)) (map row_of (put order k u es)) ≡ map row_of es)
    × (remove_entry plain (row_of (k, u)) (map row_of es) ≡ map row_of es)
remove_entry-map k u [] none = grind (arith, tied_itself (entry_cmp_total plain) (row_of (k, u)))
remove_entry-map k u (e ∷ es) none =
    let own = tied_itself (entry_cmp_total plain) (row_of (k, u)) in
    grind (arith, row_cmp-row_of e (k, u), nat_list_cmp_total.antisymm k e.0, remove_entry-map k u es)

-- removing the row of a name gives the rows of the names without it
pub remove_entry-rows_of : (names : Texts) (name u : List ℕ) → get names name ≡ Some u
    → remove_entry plain (row_of (name, u)) (rows_of names) ≡ rows_of (remove names name)
remove_entry-rows_of names name u has =
    let back = changed-after_remove names name (Some u) ∙ changed-restores names names name (Some u) (λ q far. refl) has in
    grind (
      arith,
      entries-insert nat_list_cmp_total (remove names name) name u,
      remove_entry-map name u,
      get-entries,
      get-changed names name None,
    )

-- ---- long rows

-- a row that no tree stores is huge
pub IsHuge-unstorable : (reals : ℕ) (row : Row) (e : List ℕ × List ℕ) → row ≡ row_of e → ¬ (IsStorable reals row) → IsHuge e
unfolding Ieee.is_nan
IsHuge-unstorable reals row e is not = grind arith

-- a huge row has a long name or a long text
pub IsLong-IsHuge : (e : List ℕ × List ℕ) → IsHuge e → IsLong e
IsLong-IsHuge e huge = grind arith

-- ---- a seek by a name finds its row, or the name has none

-- by the first column a row compares with a key as its name does
prefix_cmp-row_of : (e : List ℕ × List ℕ) (k : List ℕ) → prefix_cmp plain (row_of e) (Text k ∷ []) ≡ order e.0 k
prefix_cmp-row_of e k = grind (arith, prefix_cmp-one (Text e.0) (Text e.1 ∷ []) (Text k), value_cmp-Text)

-- entries whose names are above one name have neither this name nor a lower one
find-below_all : (j k : List ℕ) (es : List (List ℕ × List ℕ)) → is_gt (order j k) ≡ false → below_all order k es ≡ true
    → find order j es ≡ None
find-below_all j k [] upto above = refl
find-below_all j k (e ∷ es) upto above =
    grind (arith, nat_list_cmp_total.trans, nat_list_cmp_total.congr, find-below_all j k es upto)

-- the first row from a key on is the row of this name, or the name has none
from_key-first_row : (k : List ℕ) (es : List (List ℕ × List ℕ)) (met : Row) (left : List Row) → T (is_sorted order es)
    → from_key plain (Text k ∷ []) (map row_of es) ≡ met ∷ left
    → (column met 0 ≡ Text k → (v : List ℕ) × (find order k es ≡ Some v) × (met ≡ row_of (k, v)))
    × ((column met 0 ≡ Text k → ⊥) → find order k es ≡ None)
from_key-first_row k [] met left sorted at = absurd cc
from_key-first_row k (e ∷ es) met left sorted at =
    let same = slice_cmp-IsAntisymmetric nat_cmp-IsAntisymmetric k e.0 in
    let tied = tied_itself nat_list_cmp_total k in
    grind (
      arith,
      prefix_cmp-row_of e k,
      nat_list_cmp_total.antisymm k e.0,
      find-below_all k e.0 es,
      from_key-first_row k es met
          left,
    )

-- if no row is left from a key on, neither this name nor a later one has a row
from_key-no_row : (k n : List ℕ) (es : List (List ℕ × List ℕ)) → is_gt (order k n) ≡ false
    → from_key plain (Text k ∷ []) (map row_of es) ≡ [] → find order n es ≡ None
from_key-no_row k n [] upto past = refl
from_key-no_row k n (e ∷ es) upto past =
    let alike = alike_right nat_list_cmp_total k n e.0 in
    grind (
      arith,
      prefix_cmp-row_of e k,
      nat_list_cmp_total.trans e.0 k n,
      nat_list_cmp_total.antisymm n e.0,
      from_key-no_row k n
          es upto,
    )

-- ---- the calls of a look-up

module _ (old : View) (names : Texts) {mid : View} {k : List ℕ} {key : Row} (shape : old.shape 0 ≡ Index plain)
    (rows : old.trees 0 ≡ rows_of names) (at : key ≡ Text k ∷ [])
    (is : mid ≡ with_cursor old 1 (sought (order_of (old.shape 0)) Forward key (old.trees 0))) where
  -- after a seek by a name the cursor is before the rows from this name on
  seek-cursor : mid.cursors 1 ≡ Some (from_key plain (Text k ∷ []) (rows_of names))
  seek-cursor = grind arith

  -- the next row after a seek by a name is the row of this name, or the name has none
  pub seek_next-row : {new : View} {met : Row} → Advances mid new 1 met true
      → (column met 0 ≡ column key 0 → IsFoundAs names k Name met)
      × ((column met 0 ≡ column key 0 → ⊥) → IsFoundAs names k Later met)
  seek_next-row {met = met} moves =
      let found = from_key-first_row k (entries names) met moves.0 (entries_sorted names) in grind (arith, get-entries names k)

  -- if there is no next row after a seek by a name, neither this name nor a later one has a row
  pub seek_next-end : {new : View} (met : Row) → Advances mid new 1 met false → IsAfterAll names k
  seek_next-end met moves =
      let past = λ (n : List ℕ) (upto : is_gt (order k n) ≡ false).
      get-entries names n ∙ from_key-no_row k n (entries names) upto (same_Some _ [] (sym seek-cursor ∙ moves.0)) in
      (past k (ap is_gt (tied_itself nat_list_cmp_total k)), λ n later. past n (ap is_gt later))

-- ---- reading the rows of a table one by one

-- each row has a name and a text of one line, and another name than the row before it
abbrev pub FollowsEach : Row → List Row → Type 0
FollowsEach last [] = ⊤
FollowsEach last (row ∷ rows) = IsAccount row × (column row 0 ≡ column last 0 → ⊥) × FollowsEach row rows

-- the rows of names do so if each name has a text of one line
pub FollowsEach-rows_of : (last : Row) (es : List (List ℕ × List ℕ)) → T (is_sorted order es)
    → ((k v : List ℕ) → find order k es ≡ Some v → IsAccount (row_of (k, v)) × (Text k ≡ column last 0 → ⊥))
    → FollowsEach last (map row_of es)
FollowsEach-rows_of last [] sorted each = tt
FollowsEach-rows_of last (e ∷ es) sorted each =
    let (its, new) = each e.0 e.1 (grind (arith, tied_itself nat_list_cmp_total e.0)) in (
      its,
      new,
      FollowsEach-rows_of (row_of e) es (grind arith) (λ k v found.
          grind (arith, tied_itself nat_list_cmp_total e.0, find-below_all k e.0 es, each k v)),
    )

-- a property of each name with a text holds for the names of all entries
pub find-each_name : (P : List ℕ → Type 0) (es : List (List ℕ × List ℕ)) → ((k v : List ℕ) → find order k es ≡ Some v → P k)
    → AllByRecursion (λ e. P e.0) es
find-each_name P [] each = tt
find-each_name P (e ∷ es) each = (
  each e.0 e.1 (grind (arith, tied_itself nat_list_cmp_total e.0)),
  find-each_name P es (λ k v found. each k (cond (eq_by_cmp order k e.0) e.1 v) (grind arith)),
)

-- a name below all others is put before them
put-lowest : (e : List ℕ × List ℕ) (es : List (List ℕ × List ℕ)) (row : Row) (rows : List Row) → row ≡ row_of e
    → map row_of es ≡ rows
    → IsIndex plain (row ∷ rows) → FollowsEach row rows → put order e.0 e.1 es ≡ e ∷ es
put-lowest e [] row rows at is index more = refl
put-lowest e (f ∷ fs) row rows at is index more =
    grind (arith, row_cmp-row_of e f, slice_cmp-IsAntisymmetric nat_cmp-IsAntisymmetric e.0 f.0)

-- rows that do so, in the order of a tree, are the rows of some names
FollowsEach-names : (last : Row) (rows : List Row) → IsIndex plain rows → FollowsEach last rows
    → (names : Texts) × AreTexts names × AreLines names × (rows_of names ≡ rows)
FollowsEach-names last [] index all = (
  from_sorted [],
  grind (arith, get-from_sorted),
  grind (arith, get-from_sorted),
  ap (map row_of) (entries-from_sorted order [] tt),
)
FollowsEach-names last (row ∷ rows) index ((e, named, good, line, at), new, more) =
    let (names, texts, lines, is) = FollowsEach-names row rows index.1 more in (
      insert names e.0 e.1,
      AreTexts-changed names e.0 (Some e.1) texts named good,
      λ k v has. grind (arith, get-changed_any names e.0 k (Some e.1), lines k v),
      grind (arith, entries-insert nat_list_cmp_total names, put-lowest e (entries names) row rows),
    )

-- while rows are read, the rows that are left do so if and only if all rows do
pub record IsReading (first now : View) (last : Row) : Type 0 where
  pub same : now ≡ record first { cursors = now.cursors }
  pub all : FollowsEach last (unwrap_or (now.cursors 0) []) ↔ FollowsEach [] (first.trees 0)

-- rows that were read to the end are the rows of some names, unless the disk gave a wrong answer
pub names-of_read_rows : (clean : Bool) (rows : List Row) → (doubt clean ≡ 0 → IsIndex plain rows × FollowsEach [] rows)
    → (names : Texts) × AreTexts names × AreLines names × (doubt clean ≡ 0 → rows_of names ≡ rows)
names-of_read_rows true rows is =
    let it = FollowsEach-names [] rows (is (no_doubt true refl)).0 (is (no_doubt true refl)).1 in search arith
names-of_read_rows false rows is =
    let it = FollowsEach-names [] [] tt tt in (it.0, it.1, it.2, λ clean. absurd (never_clean clean))
