-- What an open finds after opens that failed, and what the next one finds then.
use Rattle.argon2_store.proofs.Imports.{◌≡◌, ℕ, List, [], ◌∷◌, inl, inr, refl, sym, ap, ap₂, subst, ◌∙◌, arith, ∥∥₁_elim, ∥∥₁_map}
use Rattle.argon2_store.proofs.Imports.{Row, outcomes, seen_image, PageMap, AreWhole, Image, Recovers, RecoversAs, catalog_tree, Trees, state, FileStore, IsFoundIn, MayHave, StandsFor, account}
use Rattle.argon2_store.proofs.Imports.{◌≤◌, reserved, recovers, Texts, HoldsNames, IsAfterOpens, LeavesNames, HoldsTable, catalog, rows_of-injective, Bool, true, false, IsUnwritten, HasRows, over_file}
use Rattle.argon2_store.proofs.Imports.{view, AreSound, AreTexts, AreLines, AreHeld, HoldSoundly, map, no_doubt, IsClean, rows_of, doubt}
use Rattle.argon2_rows.specs.Rows.{row_of}
use Rattle.std.specs.FinMap.{entries-from_sorted, from_sorted, get-from_sorted}
use Rattle.sqlite_trees.proofs.Doubt.{never_clean}
use Rattle.sqlite_disk.specs.declared.Disk.{Ghosts}
use Rattle.sqlite_store.specs.Listing.{file_trees}
use Rattle.sqlite_wal.proofs.RecoveryLemmas.{recovers_once as raw_once}
use Rattle.std.specs.Coded.{Coded-set, coded_list}
use mathlib.Core.HLevel.{⊥_prop}
use base.Stored.{Gv, gcons, gnil, gnum}
use Rattle.argon2_store.proofs.OpenLemmas.{IsKept-unwritten, IsTableOf-crash, StandsFor-map}
use Rattle.sqlite_wal.specs.Recovery as raw
use Rattle.sqlite_value.specs.contracts.row.Row as row
use Rattle.argon2_store.proofs.ListedTableLemmas.{file_trees-account, not_IsUnstarted-table}
use Rattle.argon2_store.proofs.PageSizeLemmas.{leading_byte, leading_byte-blank, leading_byte-magic, page_size-unique}

-- ---- an equation that can't be false holds

-- an equation of two codes that can't be false holds
code-stable : (a b : Gv) → ¬ ¬ (a ≡ b) → a ≡ b
code-stable gnil gnil h = refl
code-stable (gnum m) (gnum n) h = grind arith
code-stable (gcons a d) (gcons b c) h =
    ap₂ gcons (code-stable a b (λ never. h (λ e. never cc))) (code-stable d c (λ never. h (λ e. never cc)))
code-stable a b h = absurd (h (λ e. cc))

-- an equation of two lists of rows that can't be false holds
rows-stable : (a b : List Row) → ¬ ¬ (a ≡ b) → a ≡ b
rows-stable a b h =
    let c = coded_list row.the_row.coded in c.inj a b (code-stable _ _ (λ never. h (λ e. never (ap c.code e))))

-- if new files recover to the pages of the old ones, these are the pages of the old files
Recovers-before : (old new : Image) → RecoversAs 4096 old new → (pages : PageMap) → Recovers 4096 new pages
    → (q : PageMap) → raw.Recovers 4096 old q → Recovers 4096 old pages
Recovers-before old new same pages recs q found = search (arith, raw_once)

-- an open finds only these rows, and the files begin as a database does unless there are no rows
abbrev FindsOnly : List Row → Image → Type 0
FindsOnly first img = ((rows : List Row) → IsFoundIn 4096 img rows → rows ≡ first)
    × (¬ (first ≡ []) → (q : PageMap) → raw.Recovers 4096 img q → AreWhole 4096 q → ¬ ¬ (leading_byte q ≡ 83))

-- an equation of two lists of rows has one proof at most
rows-IsProp : (a b : List Row) → IsProp (a ≡ b)
rows-IsProp = Coded-set (coded_list row.the_row.coded)

-- that an open finds only these rows has one proof at most
FindsOnly-IsProp : (first : List Row) (img : Image) → IsProp (FindsOnly first img)
FindsOnly-IsProp first img = hlevel rows-IsProp

-- that an open finds only these rows holds if it can't be false
FindsOnly-stable : (first : List Row) (img : Image) → ¬ ¬ FindsOnly first img → FindsOnly first img
FindsOnly-stable first img h = (λ rows found. rows-stable rows first (grind arith), grind arith)

-- an open finds only the rows that the files may have
FindsOnly-MayHave : (img : Image) (first : List Row) → MayHave img first → FindsOnly first img
FindsOnly-MayHave img first (inl (size, schema, pages, allowed, recs, file, list, is)) =
    let large : 504 ≤ size = let few : reserved size ≤ 8 = grind arith in omega (arith, allowed.0) in (
      λ rows found. elim found [
        | inl there ↦ ∥∥₁_elim there.2 (rows-IsProp rows first) (λ theirs.
            let (sized, one) =
            page_size-unique img size 4096 pages there.0 recs there.1 large (omega arith) file.sound theirs.sound in
            sym (file_trees-account size schema pages list ∙ ap₂ (λ n p. file_trees n (account ∷ []) p 0) sized one ∙ there.3)
            ∙ is)
        | inr none ↦ absurd (∥∥₁_elim none.0 ⊥_prop (not_IsUnstarted-table size schema img pages large recs file list))
      ],
      λ _ q found whole never. never (leading_byte-magic size img pages recs large file.sound q found whole),
    )
FindsOnly-MayHave img first (inr (unbegun, none)) = (
  λ rows found. elim found [
    | inl there ↦ absurd
        (∥∥₁_elim there.2 ⊥_prop (λ file. not_IsUnstarted-table 4096 _ img there.0 (omega arith) there.1 file refl unbegun))
    | inr also ↦ cc
  ],
  search,
)

module _ (first : List Row) (old new : Image) (near : FindsOnly first old) where
  -- files that recover to the pages of the old files have only the rows of these
  FindsOnly-RecoversAs : RecoversAs 4096 old new → (q : PageMap) → raw.Recovers 4096 old q → AreWhole 4096 q → FindsOnly first new
  FindsOnly-RecoversAs same q was full = (
    λ rows found. elim found [
      | inl there ↦ near.0 rows (inl (there.0, Recovers-before old new same there.0 there.1 q was, there.2, there.3, there.4))
      | inr none ↦ ∥∥₁_elim none.0 (rows-IsProp rows first) (λ unbegun. elim unbegun [
        | inl blank ↦ rows-stable rows first (λ never.
            near.1 (λ is. never (none.1 ∙ sym is)) q was full (leading_byte-blank new blank q (same q was) full))
        | inr bare ↦ near.0 rows
            (inr (∣ inr (bare.0, Recovers-before old new same bare.0 bare.1 q was, bare.2, bare.3) ∣₁, none.1))
      ])
    ],
    λ some p found whole never. near.1 some q was full
        (λ is. never (ap leading_byte (raw_once 4096 new p q found (same q was)) ∙ is)),
  )

  -- files that stand for the old files have only the rows of these
  FindsOnly-StandsFor : StandsFor (λ image. image ≡ old) old new → FindsOnly first new
  FindsOnly-StandsFor (inl is) = subst (FindsOnly first) (sym is) near
  FindsOnly-StandsFor (inr (inl (same, unread))) = FindsOnly-stable first new (λ never.
      never (subst (FindsOnly first) (sym (unread (λ q was full. never (FindsOnly-RecoversAs same q was full)))) near))
  FindsOnly-StandsFor (inr (inr (rows, before, after))) = ∥∥₁_elim after (FindsOnly-IsProp first new) (λ may.
      subst (λ r. FindsOnly r new) (∥∥₁_elim before (rows-IsProp rows first) (near.0 rows)) (FindsOnly-MayHave new rows may))

-- after any opens that failed the files have only the rows that they had before
FindsOnly-IsAfterOpens : (first : List Row) (opens : List Image) (before left : Image) → IsAfterOpens opens before left
    → FindsOnly first before → FindsOnly first left
FindsOnly-IsAfterOpens first [] before left is near = subst (FindsOnly first) (sym is) near
FindsOnly-IsAfterOpens first (found ∷ older) before left (earlier, stands) near =
    FindsOnly-StandsFor first found left (FindsOnly-IsAfterOpens first older before found earlier near) stands

-- ---- from one run to the next

-- what an open finds, after a crash and opens that failed, is what the store recovers to
pub next_open-recovers : {D : Type 0} {g : Ghosts D} (it : FileStore D g)
    → ((db : Trees) → recovers it db → db catalog_tree ≡ catalog)
    → (before : Image) → (state it).may_leave before → (opens : List Image) (left : Image) → IsAfterOpens opens before left
    → (found : Texts) → HoldsNames left found → ∥ ((db : Trees) × recovers it db × HoldsTable db found) ∥₁
next_open-recovers it listed before may opens left after found holds =
    ∥∥₁_map (IsTableOf-crash it listed before may) (λ (db, can, table).
    let near = FindsOnly-IsAfterOpens _ opens before left after (FindsOnly-MayHave before (db 0) (inl table)) in
    (db, can, (sym (near.0 _ holds.1), listed db can)))

-- ---- one more open that failed

-- an open finds no other rows than the rows that it found in the same files
pub FindsOnly-IsFoundIn : (img : Image) (rows : List Row) → IsFoundIn 4096 img rows → FindsOnly rows img
FindsOnly-IsFoundIn img rows (inl (pages, recs, file, is, one)) = ∥∥₁_elim file (FindsOnly-IsProp rows img) (λ file.
    FindsOnly-MayHave img rows (inl (4096, account ∷ [], pages, (omega arith, omega arith, refl, refl), recs, file, refl, is)))
FindsOnly-IsFoundIn img rows (inr (none, is)) =
    ∥∥₁_elim none (FindsOnly-IsProp rows img) (λ unbegun. FindsOnly-MayHave img rows (inr (unbegun, is)))

-- an open of files that hold names soundly finds the rows of these names
HoldSoundly-rows : (img : Image) (names : Texts) → HoldSoundly img names → (rows : List Row) → IsFoundIn 4096 img rows → rows
    ≡ rows_of names
HoldSoundly-rows img names (texts, lines, inl (pages, recs, file, is)) rows found =
    (FindsOnly-MayHave img (rows_of names) (inl
    (4096, account ∷ [], pages, (omega arith, omega arith, refl, refl), recs, file, refl, is))).0 rows found
HoldSoundly-rows img names (texts, lines, inr (unbegun, is)) rows found =
    (FindsOnly-MayHave img (rows_of names) (inr (unbegun, is))).0 rows found

-- files that hold names soundly are sound
pub HoldSoundly-AreSound : (img : Image) (names : Texts) → HoldSoundly img names → AreSound img
HoldSoundly-AreSound img names (texts, lines, inl (pages, recs, file, is)) = inl (pages, recs, file)
HoldSoundly-AreSound img names (texts, lines, inr (unbegun, is)) = inr unbegun

-- no names
abbrev no_names : Texts
no_names = from_sorted []

-- no names are texts
no_names-AreTexts : AreTexts no_names
no_names-AreTexts name text has = let e = sym (get-from_sorted _ [] name tt) ∙ has in absurd cc

-- no names have texts of one line
no_names-AreLines : AreLines no_names
no_names-AreLines name text has = let e = sym (get-from_sorted _ [] name tt) ∙ has in absurd cc

-- the rows that an open finds in sound files are the rows of some names, unless the disk gave a wrong answer
pub AreHeld-names : (clean : Bool) (img : Image) (rows : List Row) → (doubt clean ≡ 0 → AreHeld img)
    → (doubt clean ≡ 0 → IsFoundIn 4096 img rows)
    → (names : Texts) × AreTexts names × AreLines names × (doubt clean ≡ 0 → rows ≡ rows_of names)
AreHeld-names true img rows held found =
    let now = no_doubt true refl in
    let it = held now in
    (it.0, it.1.0, it.1.1, λ clean. HoldSoundly-rows img it.0 it.1 rows (found now))
AreHeld-names false img rows held found = (no_names, no_names-AreTexts, no_names-AreLines, λ clean. absurd (never_clean clean))

-- two files without a byte, for which `Wary` stands, hold no names soundly
pub empty_held : AreHeld (record { log = []; db = [] })
empty_held =
    (no_names, (no_names-AreTexts, no_names-AreLines, inr (inl (inl refl), ap (map row_of) (entries-from_sorted _ [] tt))))

-- a store that was opened on sound files has the names that the files hold
pub AreHeld-HasRows : {D : Type 0} {g : Ghosts D} (it : FileStore D g) (img : Image)
    → (IsClean (view it) → AreHeld img)
    → (IsClean (view it) → IsUnwritten (view it) × IsFoundIn 4096 img ((view it).committed 0))
    → (names : Texts) × HasRows over_file it names × AreLines names × (IsClean (view it) → HoldsNames img names)
AreHeld-HasRows it img held opened =
    let (names, texts, lines, rows) =
    AreHeld-names (view it).is_clean img ((view it).committed 0) held (λ clean. (opened clean).1) in (
      names,
      (texts, IsKept-unwritten it names (λ clean. (opened clean).0) rows),
      lines,
      λ clean. (texts, subst (IsFoundIn 4096 img) (rows clean) (opened clean).1),
    )

-- ---- one more open that failed

-- an open that fails leaves the names that the files held
pub failed_open-LeavesNames : {D : Type 0} (g : Ghosts D) (old new : D × D) → LeavesNames g old new
failed_open-LeavesNames g old new synced unharmed clean left may opens before after =
    let found = seen_image g old.0 old.1 in
    let stands = StandsFor-map (outcomes g old.0 old.1) (λ img. img ≡ found) found left (λ img was.
    ap₂ (λ (a b : List ℕ). record { log = a; db = b }) (synced.0 img.log was.0) (synced.1 img.db was.1))
    (unharmed clean left may) in (
      (after, stands),
      λ names other held holds. rows_of-injective other names
          ((FindsOnly-IsAfterOpens _ (found ∷ opens) before left (after, stands) (FindsOnly-IsFoundIn before _ held.1)).0 _
          holds.1),
    )
