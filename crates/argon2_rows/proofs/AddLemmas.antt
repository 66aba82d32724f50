-- Names to which several are added.
use Rattle.argon2_rows.proofs.Imports.{◌≡◌, ℕ, List, [], ◌∷◌, ◌++◌, false, Some, Result, Ok, Err, refl, Io, arith, inl, map, Bor, Any, StoreError, Ghosts, Texts, AddsAll, AddsEach, AddsNames, changed, get, None}
use Rattle.argon2_rows.proofs.Imports.{WritesAll, IsPermutation, entry_of, bytes_eq-Decides, HasBegun, IsKept, Writes, written_of, HasRows, CrashLeaves, ◌⊎◌, IsHonest, IsLong, IsOpen, StaysQuiet}
use Rattle.argon2_rows.proofs.Imports.{StoredText, AddError, Store, Taken}
use Rattle.std.proofs.lemmas.Result.{on_ok_weaker}
use Rattle.std.proofs.lemmas.List.Sorted.{Contains-permutation, IsPermutation-map, IsPermutation-sym}
use Rattle.sqlite_trees.proofs.ListLemmas.{along_permutation}
use Rattle.argon2_rows.proofs.RowLemmas.{changed-commutes, get-changed_any, get-changed}
use Rattle.argon2_rows.proofs.TableLemmas.{IsSettled, HasCause-map, Changes-Finishes, crash_leaves-quiet, StaysQuiet-trans, HasRows-undo}

-- names that can be added, and one more new name, can be added together
pub AddsAll-last : (es : List (List ℕ × List ℕ)) (before mid after : Texts) (e : List ℕ × List ℕ) → AddsAll before es mid
    → get mid e.0 ≡ None → after ≡ changed mid e.0 (Some e.1) → AddsAll before (es ++ e ∷ []) after
AddsAll-last [] before mid after e same none last = grind arith
AddsAll-last (x ∷ xs) before mid after e all none last = (all.0, AddsAll-last xs _ mid after e all.1 none last)

-- ---- the order of the names

-- names that can be added as the one list can be added as the other, with the same result
abbrev Reorders : List (List ℕ × List ℕ) → List (List ℕ × List ℕ) → Type 0
Reorders es fs = (before after : Texts) → AddsAll before es after → AddsAll before fs after

-- the first two names may change places
AddsAll-swap : (x y : List ℕ × List ℕ) (es : List (List ℕ × List ℕ)) → Reorders (x ∷ y ∷ es) (y ∷ x ∷ es)
AddsAll-swap x y es before after all =
    let test = bytes_eq-Decides y.0 x.0 in
    let back = bytes_eq-Decides x.0 y.0 in
    let turned = changed-commutes before x.0 y.0 (Some x.1) (Some y.1) in
    grind (
      arith,
      get-changed_any before x.0 y.0 (Some x.1),
      get-changed_any before y.0 x.0 (Some y.1),
      get-changed before x.0
          (Some x.1),
    )

-- names may be added in any order
AddsAll-permutation : (es fs : List (List ℕ × List ℕ)) → IsPermutation es fs → Reorders es fs
AddsAll-permutation = along_permutation Reorders (λ es before after all. all)
    (λ x es fs moved before after all. (all.0, moved _ after all.1)) AddsAll-swap
    (λ es fs gs first then before after all. then before after (first before after all))

module _ {S : Type 0} (g : Ghosts S) where
  -- a call that adds names in one order adds them in each other order
  pub AddsNames-permutation : (old new : S) (before : Texts) (xs ys : List (Bor (List ℕ) × StoredText))
      (done : Result (Unit {0}) StoreError)
      → (IsHonest g old → IsOpen g old) → IsPermutation xs ys → HasRows g old before
      → AddsNames g old new before (map entry_of ys) done → AddsNames g old new before (map entry_of xs) done
  AddsNames-permutation old new before xs ys done was_open moved has (after, may, all, change) =
      let back = IsPermutation-map entry_of ys xs (IsPermutation-sym xs ys moved) in
      let moves = AddsAll-permutation _ _ back before after in
      let more : Any IsLong (map entry_of ys) → Any IsLong (map entry_of xs) = λ (k, e, within, is, long).
      let (j, there, at) = Contains-permutation _ _ e back (k, within, is) in (j, e, there, at, long) in
      (after, λ clean. grind arith, on_ok_weaker done (λ f clean. moves (f clean)) all, search (arith, HasCause-map))

  -- after names are not all written, and what was written is removed, nothing has changed
  pub WritesAll-undo : (old mid new : S) {before after : Texts} (es : List (List ℕ × List ℕ)) (error : AddError) → IsSettled g
      → (IsHonest g old → IsOpen g old) → HasRows g old before
      → Writes g old mid before after (Any IsLong es) (written_of (Err error))
      → (IsHonest g mid → AddsEach before es after (Err error))
      → ((names : Texts) → (IsHonest g new → HasBegun g mid names) → IsKept g new names) → g.blamed new ≡ g.blamed mid
      → StaysQuiet g mid new → WritesAll g old new before es (Err error)
  WritesAll-undo old mid new es (Taken k) settled was_open has wrote first kept blame quiet = (
    HasRows-undo settled was_open has wrote (kept _) quiet,
    λ clean. first (omega (arith, clean, quiet.clean)),
    StaysQuiet-trans g old mid new wrote.quiet quiet,
  )
  WritesAll-undo old mid new {before} es (Store e) settled was_open has wrote first kept blame quiet =
      let wrote_none : Writes g old mid before before (Any IsLong es) (Err e) = search arith in
      (before, λ clean. inl refl, tt, Changes-Finishes settled was_open (Err e) (Err e) has has.0 wrote_none (search arith))

  -- after others were written and taken back
  module _ (old mid : S) (before : Texts) (had : HasRows g mid before) (quiet : StaysQuiet g old mid) where
    -- a call that adds names after others were written and removed does so from the first store on
    pub WritesAll-after_undo : (new : S) (es : List (List ℕ × List ℕ)) (r : Result (Unit {0}) AddError)
        → (IsHonest g mid → IsOpen g mid) → WritesAll g mid new before es r → WritesAll g old new before es r
    WritesAll-after_undo new es (Ok x) is_open (after, may, all, change) =
        (after, may, all, search (arith, HasCause-map))
    WritesAll-after_undo new es (Err (Store e)) is_open (after, may, all, change) =
        (after, may, all, search (arith, HasCause-map))
    WritesAll-after_undo new es (Err (Taken k)) is_open wrote = search arith

    -- if the removal of what was written has closed the file, no name is added
    pub AddsNames-closed : (es : List (List ℕ × List ℕ)) → IsSettled g → (IsHonest g old → IsOpen g old) → IsKept g old before
        → (IsHonest g mid → (g.view mid).is_open ≡ false) → AddsNames g old mid before es (Err Io)
    AddsNames-closed es settled was_open has shut =
        let earlier : IsHonest g mid → IsHonest g old = λ clean. omega (arith, clean, quiet.clean) in
        let crash : IsHonest g mid → CrashLeaves g mid (λ left. (left ≡ before) ⊎ (left ≡ before)) = λ clean db found.
        let left = crash_leaves-quiet g settled old mid before has quiet clean (was_open (earlier clean)) db found in
        (left.0, left.1, inl left.2) in
        (before, λ clean. inl refl, tt, search (arith, quiet.closes))
