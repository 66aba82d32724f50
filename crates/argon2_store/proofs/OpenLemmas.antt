-- A store that is ready, and what an open that fails leaves.
use Rattle.argon2_store.proofs.Imports.{◌≡◌, ℕ, Bool, List, [], ◌∷◌, inl, inr, refl, sym, ap, subst, subst₂, ◌∙◌, arith, IsTrue, ◌↔◌, ∥∥₁_elim, ∥∥₁_map, Row, IsSoundFile, OpenError}
use Rattle.argon2_store.proofs.Imports.{outcomes, seen_image, Image, IsBlankFile, RecoversAs-from, readable, trimmed_whole, clean_if_left, clean_is, size_is_allowed}
use Rattle.argon2_store.proofs.Imports.{clean_of, no_doubt, catalog_tree, Trees, IsClean, not_broken, settled_at, SeenMayStay, files, reading, schema_in, schema_of}
use Rattle.argon2_store.proofs.Imports.{state, view, catalog_rows, files_of, image, state_of, wanted_by, FileStore, AreUnharmed, IsFoundIn, IsTableOf, IsUnstarted}
use Rattle.argon2_store.proofs.Imports.{MayHave, StandsFor, account, IsUnwritten, recovers, AreClean, OnlyReads, IsOfDatabase, HasOtherFormat, HasVersion, IsDamaged, IsOfDamage, IsOfFormat, IsOfPair, ◌≢◌, PageMap, Recovers}
use Rattle.sqlite_wal.specs.Reads.{OnlyReadsBoth}
use Rattle.argon2_store.specs.declared.error.OpenError.TheVariants as no
use Rattle.sqlite_disk.specs.declared.Disk.{Ghosts}
use Rattle.sqlite_pool.specs.Pool.{files as pool_files, state as pool_state}
use Rattle.sqlite_store.proofs.BuildLemmas.{new_is_empty}
use Rattle.sqlite_store.specs.Calls.{IsQuietCall}
use Rattle.sqlite_pool.specs.declared.pool.Pool.{Pool}
use Rattle.sqlite_store.specs.FileStore.{IsReady}
use Rattle.sqlite_store.specs.Listing.{all_shapes, all_trees, listed_from}
use Rattle.sqlite_store.specs.declared.store.open.Unopened.{Unopened}
use Rattle.argon2_rows.specs.Table.{catalog}
use Rattle.sqlite_store.specs.Unopened as below
use Rattle.sqlite_store.specs.Db.{rows_at, IsFile}
use Rattle.sqlite_pool.specs.File.{in_use}
use Rattle.argon2_store.proofs.Imports.{false, halves, recovers_once, length, Table, AreSound, IsKept, Texts, over_file, rows_of}

-- ---- a store that is ready

-- a store of the accounts' table that has just been opened has no change that waits for a commit
pub IsUnwritten-opened : {D : Type 0} {g : Ghosts D} (it : FileStore D g) → IsReady it → schema_of it ≡ account ∷ []
    → IsClean (view it)
    → IsUnwritten (view it)
unfolding catalog all_shapes
IsUnwritten-opened it ready is clean = search (arith, clean_of, catalog_rows)

-- a store without a change that waits for a commit has the names of its rows
pub IsKept-unwritten : {D : Type 0} {g : Ghosts D} (it : FileStore D g) (names : Texts)
    → (IsClean (view it) → IsUnwritten (view it))
    → (IsClean (view it) → (view it).committed 0 ≡ rows_of names) → IsKept over_file it names
IsKept-unwritten it names unwritten rows = record {
  indexed = λ clean _. (unwritten clean).indexed;
  shapes = λ clean _. (unwritten clean).shapes;
  sound = λ clean _. (unwritten clean).unbroken;
  seen = λ clean _. (ap (λ (t : Trees). t 0) (unwritten clean).settled ∙ rows clean, (unwritten clean).listed);
  committed = λ clean _. (
    rows clean,
    ap (λ (t : Trees). t catalog_tree) (sym (unwritten clean).settled)
        ∙ (unwritten clean).listed,
  );
}

-- ---- an open that fails

-- a file that stands for some images stands for more images
pub StandsFor-map : (was first : Image → Type 0) (i left : Image) → ((l : Image) → was l → first l) → StandsFor was i left
    → StandsFor first i left
StandsFor-map was first i left within stands = grind arith

-- a read of the log before reads of both files is a read of both files
pub OnlyReadsBoth-then : {D : Type 0} {g : Ghosts D} {log db mid new_log new_db : D} → OnlyReads g log mid
    → OnlyReads g mid new_log
    → OnlyReads g db new_db → OnlyReadsBoth g (log, db) (new_log, new_db)
OnlyReadsBoth-then first later also = (search arith, also)

-- reads of both files leave what the files hold
pub seen_image-after_read : {D : Type 0} {g : Ghosts D} {old mid : D × D} → OnlyReadsBoth g old mid
    → seen_image g mid.0 mid.1 ≡ seen_image g old.0 old.1
seen_image-after_read reads = search arith

-- files without a wrong answer after reads had none before
pub AreClean-before_read : {D : Type 0} {g : Ghosts D} {old mid : D × D} → OnlyReadsBoth g old mid → AreClean g mid.0 mid.1
    → AreClean g old.0 old.1
AreClean-before_read {g = g} reads clean =
    let both = halves g _ _ clean in grind (arith, reads.0.clean both.0, reads.1.clean both.1)

-- files that are unharmed since they were read are unharmed since before that
pub AreUnharmed-after_read : {D : Type 0} {g : Ghosts D} {old mid : D × D} (new : D × D) → OnlyReadsBoth g old mid
    → AreUnharmed g mid new
    → AreUnharmed g old new
AreUnharmed-after_read {g = g} {old} {mid} new reads unharmed clean left may =
    subst (λ i. StandsFor (outcomes g old.0 old.1) i left) (seen_image-after_read reads)
    (StandsFor-map (outcomes g mid.0 mid.1) (outcomes g old.0 old.1) _ left
    (λ l out. (reads.0.crash l.log out.0, reads.1.crash l.db out.1)) (unharmed clean left may))

module _ {D : Type 0} {g : Ghosts D} (old : Unopened D g) (sized : (state_of old).page_size ≡ 4096) (left : Image) where
  -- files that are as before stand for the files before
  pub StandsFor-IsAsBefore : below.IsAsBefore old left → StandsFor (state_of old).may_leave (image old) left
  StandsFor-IsAsBefore is = elim (rw sized at is.same) [ inl was ↦ inl was | inr same ↦ inr (inl (same, rw sized at is.unread)) ]

  -- files in which a table is being made may have no rows
  MayHave-IsOnTheWay : wanted_by old ≡ account ∷ [] → below.IsOnTheWay old left → ∥ MayHave left [] ∥₁
  unfolding all_trees
  MayHave-IsOnTheWay wants (inl blank) = ∣ inr (inl (rw sized at blank), refl) ∣₁
  MayHave-IsOnTheWay wants (inr (pages, recs, inl new)) =
      let empty = new_is_empty _ pages (rw recs.shows at (trimmed_whole _ recs.stored recs.whole)) new in
      ∣ inr (inr (pages, rw sized at recs, rw sized at new.sound, rw sized at empty.1), refl) ∣₁
  MayHave-IsOnTheWay wants (inr (pages, recs, inr fresh)) =
      ∥∥₁_elim (size_is_allowed old.pool) squash₁ (λ allowed. ∥∥₁_map fresh (λ ours.
      inl (_, wanted_by old, pages, allowed, recs, ours.0.file, ap (listed_from 0) wants, ours.1 0)))

-- files in which a table is being made stand for files without a table
pub StandsFor-IsOnTheWay : {D : Type 0} {g : Ghosts D} (old mid : Unopened D g) (sized : (state_of old).page_size ≡ 4096)
    → (state_of mid).page_size ≡ (state_of old).page_size → (left : Image) → wanted_by mid ≡ account ∷ []
    → ∥ IsUnstarted (state_of old).page_size (image old) ∥₁ → below.IsOnTheWay mid left
    → StandsFor (state_of old).may_leave (image old) left
StandsFor-IsOnTheWay old mid sized same left wants none way =
    inr (inr ([], ∣ inr ((rw sized at none), refl) ∣₁, MayHave-IsOnTheWay mid (same ∙ sized) left wants way))

-- after the schema was read
module _ {D : Type 0} {g : Ghosts D} (old mid : Unopened D g) (rows : List Row) (listed : below.IsCatalogOf old mid rows)
    (sized : (state_of mid).page_size ≡ (state_of old).page_size) where
  -- a database that lists nothing is still to be begun
  pub IsUnstarted-no_rows : rows ≡ [] → ∥ IsUnstarted (state_of old).page_size (image old) ∥₁
  IsUnstarted-no_rows none = ∥∥₁_map listed.shows.clean.sound (λ sound.
      inr (listed.pages, listed.found, subst₂ IsSoundFile sized listed.shows.committed sound, sym listed.lists ∙ none))

  -- sound files that list one thing are a database of the accounts' table
  pub HasFile-AreSound : (state_of old).page_size ≡ 4096 → wanted_by mid ≡ account ∷ [] → length rows ≡ 1
      → ¬ IsBlankFile 4096 (image old) → AreSound (image old) → below.HasFile mid
  HasFile-AreSound is_page wants one begun (inl (pages, recs, file)) =
      let same = recovers_once 4096 (image old) _ _ recs (rw is_page at listed.found) in
      let size = sized ∙ is_page in
      (listed.pages, rw sized listed.again, rw (size, wants) (subst (IsFile 4096 (account ∷ [])) same file))
  HasFile-AreSound is_page wants one begun (inr (inl blank)) = absurd (begun blank)
  HasFile-AreSound is_page wants one begun (inr (inr (pages, recs, sound, none))) =
      let same = recovers_once 4096 (image old) _ _ recs (rw is_page at listed.found) in
      let rows_none = subst (λ p. rows_at 4096 (in_use 4096 p) Table 1 ≡ []) same none in
      let here = rw is_page at listed.lists in
      absurd (omega (arith, one, ap length (here ∙ rows_none)))

  -- files that are as they were after the catalog was read are as before that
  pub IsAsBefore-after_catalog : below.Opens old (state_of mid) → (left : Image) → below.IsAsBefore mid left
      → below.IsAsBefore old left
  IsAsBefore-after_catalog opens left is = record {
    same = elim (rw sized at is.same) [
      | inl may ↦ (opens.crash left may).same
      | inr same ↦ inr (λ pages was. same pages
          (RecoversAs-from _ (image old) (image mid) listed.pages listed.found listed.again pages was))
    ];
    unread = λ none. absurd (readable _ (image old) listed.pages listed.found none);
  }

module _ {D : Type 0} {g : Ghosts D} where
  module _ (it : Pool D g) (files : D × D) (same : pool_files it ≡ files) where
    -- files are without a wrong answer if their pool of pages is
    AreClean-pool : IsTrue (pool_state it).is_clean → AreClean g files.0 files.1
    AreClean-pool clean = rw (clean_is it, same) at clean

    -- a pool of pages is without a wrong answer if its files are
    pub pool_clean-AreClean : AreClean g files.0 files.1 → IsTrue (pool_state it).is_clean
    pool_clean-AreClean clean = rw (clean_is it, same) clean

    -- a crash leaves of a pool of pages what it may leave of the two files
    pool_may_leave-outcomes : AreClean g files.0 files.1 → (left : Image) → outcomes g files.0 files.1 left
        → (pool_state it).may_leave left
    unfolding pool_state pool_files
    pool_may_leave-outcomes clean left may = search arith

  module _ {log db mid_log mid_db : D} (reads : OnlyReads g log mid_log) (also : OnlyReads g db mid_db) (it : Unopened D g)
      (same : files_of it ≡ (mid_log, mid_db)) where
    -- a database that is not opened yet holds what the two files held before they were probed
    pub image-after_probe : image it ≡ seen_image g log db
    image-after_probe = search arith

    -- files whose database has had no wrong answer had none before they were probed
    pub AreClean-before_probe : IsTrue (state_of it).is_clean → AreClean g log db
    AreClean-before_probe clean = let was = AreClean-pool it.pool (mid_log, mid_db) same clean in grind arith

    -- if the probe finds no database, the files hold none
    pub IsBlankFile-probed : (b : Bool) (size : ℕ) → (state_of it).page_size ≡ size
        → (AreClean g mid_log mid_db → (IsTrue b ↔ IsBlankFile size (seen_image g log db)))
        → IsTrue b → IsTrue (state_of it).is_clean → IsBlankFile (state_of it).page_size (image it)
    IsBlankFile-probed b size sized probe new clean = search (arith, image-after_probe, AreClean-pool)

    -- if the probe finds a database, the files hold one
    pub not_blank-probed : (b : Bool) (size : ℕ) → b ≡ false
        → (AreClean g mid_log mid_db → (IsTrue b ↔ IsBlankFile size (seen_image g log db)))
        → IsTrue (state_of it).is_clean → ¬ IsBlankFile size (image it)
    not_blank-probed b size none probe clean blank =
        let is = (probe (AreClean-pool it.pool (mid_log, mid_db) same clean)).1
        (subst (IsBlankFile size) image-after_probe blank) in absurd cc

    -- files that are closed after a failed open are unharmed if the database stands for them
    pub AreUnharmed-closed : (state_of it).page_size ≡ 4096 → (end : Unopened D g) (new : D × D) → new ≡ files_of end
        → ((state_of it).page_size ≡ 4096 → IsTrue (state_of end).is_clean → IsTrue (state_of it).is_clean
        × ((left : Image) → (state_of end).may_leave left → StandsFor (state_of it).may_leave (image it) left))
        → (AreClean g new.0 new.1 → AreClean g log db) × AreUnharmed g (log, db) new
    unfolding pool_state pool_files
    AreUnharmed-closed sized end new closed stands = (
      λ clean. AreClean-before_probe (stands sized (pool_clean-AreClean end.pool new (sym closed) clean)).0,
      λ clean left may.
          let within : (l : Image) → (state_of it).may_leave l → outcomes g log db l = search arith in
          let left_so = pool_may_leave-outcomes end.pool new (sym closed) clean left may in
          subst (λ i. StandsFor (outcomes g log db) i left) image-after_probe
          (StandsFor-map _ _ _ left within ((stands sized (clean_if_left end.pool left left_so)).1 left left_so)),
    )

-- whatever a crash leaves of a store that lists only the accounts' table is this table, with the rows that the store recovers to
pub IsTableOf-crash : {D : Type 0} {g : Ghosts D} (it : FileStore D g)
    → ((db : Trees) → recovers it db → db catalog_tree ≡ catalog)
    → (left : Image) → (state it).may_leave left → ∥ ((db : Trees) × recovers it db × IsTableOf left (db 0)) ∥₁
unfolding catalog
IsTableOf-crash it listed left may = ∥∥₁_elim it.safe squash₁ (λ all.
    let (pages, recs, ours) = all left may in
    let db = reading it pages in
    let can : recovers it db = (left, pages, may, ∣ recs ∣₁, refl) in
    let list = sym (catalog_rows (state it).page_size (schema_in it pages) _) ∙ listed db can in
    ∥∥₁_elim (size_is_allowed it.pool) squash₁ (λ allowed. ∥∥₁_map ours (λ ours.
    (db, can, (_, schema_in it pages, pages, allowed, recs, ours.file, list, refl)))))

-- after rows were only read, whatever a crash leaves has the rows that the open found
pub AreUnharmed-quiet : {D : Type 0} {g : Ghosts D} (old : D × D) (it end : FileStore D g) (new : D × D) → SeenMayStay g
    → IsQuietCall it end
    → (IsClean (view it) → IsUnwritten (view it) × AreClean g old.0 old.1
    × IsFoundIn 4096 (seen_image g old.0 old.1) ((view it).committed 0))
    → new ≡ files end → AreUnharmed g old new
AreUnharmed-quiet old it end new stay quiet opened closed clean left may =
    let may_so = pool_may_leave-outcomes end.pool new (sym closed) clean left may in
    let was : IsClean (view it) = omega (arith, quiet.clean, no_doubt _ (clean_if_left end.pool left may_so)) in
    let (first, honest, found) = opened was in
    let same = λ (db : Trees) (can : recovers end db).
    settled_at it stay db (not_broken _ _ first.unbroken).1 (quiet.outcomes db can) in
    let listed = λ (db : Trees) (can : recovers end db).
    ap (λ (t : Trees). t catalog_tree) (same db can ∙ sym first.settled) ∙ first.listed in
    inr (inr (
      (view it).committed 0,
      ∣ found ∣₁,
      ∥∥₁_map (IsTableOf-crash end listed left may_so)
          (λ (db, can, table). inl (subst (λ (t : Trees). IsTableOf left (t 0)) (same db can) table)),
    ))

-- an open that fails with an error of the database leaves the files unharmed, and says nothing of the names
pub IsOfPair-IsOfDatabase : {D : Type 0} {g : Ghosts D} {old new : D × D} (e : OpenError) → IsOfDatabase e
    → (AreClean g new.0 new.1 → IsDamaged (g.seen old.0) → IsOfDamage g old.0 new.0 e)
    → (AreClean g new.0 new.1 → (n : ℕ) → HasOtherFormat (seen_image g old.0 old.1) n → IsOfFormat g old new n e)
    → AreUnharmed g old new → IsOfPair g old new e
IsOfPair-IsOfDatabase e of damage other unharmed = record {
  kind = inr (inr (inr of));
  row = λ is. absurd (subst IsOfDatabase is of);
  damaged = λ is. absurd (subst IsOfDatabase is of);
  damage = damage;
  format = λ n is. absurd (subst IsOfDatabase is of);
  other = other;
  unharmed = unharmed;
}

-- so does an open that fails after it has read the headers of sound files in this release's format
pub IsOfPair-after_headers : {D : Type 0} {g : Ghosts D} {old mid : D × D} (new : D × D) (e : OpenError) → IsOfDatabase e
    → OnlyReadsBoth g old mid → (AreClean g mid.0 mid.1 → ¬ IsDamaged (g.seen old.0))
    → (AreClean g mid.0 mid.1 → (n : ℕ) → ¬ HasOtherFormat (seen_image g old.0 old.1) n)
    → (AreClean g new.0 new.1 → AreClean g mid.0 mid.1) → AreUnharmed g mid new → IsOfPair g old new e
IsOfPair-after_headers new e of reads whole known clean unharmed =
    IsOfPair-IsOfDatabase e of (λ now damaged. absurd (whole (clean now) damaged)) (λ now n has. absurd (known (clean now) n has))
    (AreUnharmed-after_read new reads unharmed)

-- if the header has the number of this release's format, the files recover to no database of another format
pub not_HasOtherFormat : (held : Image) (format : ℕ) → format ≡ 0 → ((pages : PageMap) → Recovers 4096 held pages
    → (format ≢ 0 → HasVersion pages format) × ((m : ℕ) → m ≢ 0 → HasVersion pages m → format ≡ m))
    → (n : ℕ) → ¬ HasOtherFormat held n
not_HasOtherFormat held format is found n has = has.0 (sym ((found has.1.0 has.1.1).1 n has.0 has.1.2) ∙ is)

-- an error that is due to the format is so too if the log was read before
pub IsOfFormat-after_read : {D : Type 0} (g : Ghosts D) (log mid db : D) (new : D × D) (n : ℕ) (e : OpenError)
    → g.faults mid ≡ g.faults log → g.seen mid ≡ g.seen log → IsOfFormat g (mid, db) new n e → IsOfFormat g (log, db) new n e
IsOfFormat-after_read g log mid db new n no.Io faults seen is = rw faults at is
IsOfFormat-after_read g log mid db new n no.Full faults seen is = rw seen at is
IsOfFormat-after_read g log mid db new n _ faults seen is = is
