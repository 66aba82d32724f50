-- What an open finds in the files, and how it fails.
use Rattle.std.specs.Prelude.{◌≡◌, ◌≢◌, ◌⊎◌, ◌≤◌, ⊤, ℕ, List, [], ◌∷◌, ◌++◌, All, codes, length, slice_index, take, IsTrue}
pub use Rattle.sqlite_value.specs.Order.{Row, column}
use Rattle.sqlite_disk.specs.declared.Disk.{Ghosts}
use Rattle.sqlite_disk.specs.Disk.{MoreFaults, Only}
pub use Rattle.sqlite_pages.specs.PageMap.{PageMap}
pub use Rattle.sqlite_pool.specs.Opening.{IsBlankFile}
pub use Rattle.sqlite_pool.specs.Stored.{IsUnreadable, Recovers, RecoversAs, stored_size}
pub use Rattle.sqlite_store.specs.Listing.{file_trees, listed_from}
pub use Rattle.sqlite_store.specs.declared.catalog.Wanted.{Wanted}
pub use Rattle.sqlite_store.specs.Db.{IsFile, rows_at}
pub use Rattle.sqlite_pool.specs.File.{IsSoundFile, header_in, in_use, version_in}
pub use Rattle.sqlite_trees.specs.declared.store.Shape.TheVariants.{Table}
pub use Rattle.sqlite_wal.specs.Files.{outcomes, seen_image}
use Rattle.sqlite_wal.specs.PageSize.{IsPageSize}
pub use Rattle.sqlite_wal.specs.Reads.{AreClean, OnlyReads}
pub use Rattle.sqlite_wal.specs.Format.{IsSigned}
pub use Rattle.sqlite_wal.specs.Recovery.{Image, frame_at, header}
use Rattle.argon2_rows.specs.Names.{Texts}
use Rattle.argon2_rows.specs.Rows.{AreLines, AreTexts, rows_of}
pub use Rattle.argon2_rows.specs.Table.{account}
use Rattle.argon2_store.specs.Errors.{IsOfDatabase, OpenError}
use Rattle.argon2_store.specs.declared.error.OpenError.TheVariants as no

-- there is no database yet, or the database lists no table
abbrev pub IsUnstarted : ℕ → Image → Type 0
IsUnstarted size image = IsBlankFile size image
    ⊎ ((pages : PageMap) × Recovers size image pages × IsSoundFile size pages × (rows_at size (in_use size pages) Table 1 ≡ []))

-- The database lists one thing: no second table, no view, no index and no trigger.
abbrev pub ListsOne : ℕ → PageMap → Type 0
ListsOne size pages = length (rows_at size (in_use size pages) Table 1) ≡ 1

-- A row of sqlite_schema describes the table of accounts. Its columns after the rowid are the type, the name, the table, the
-- first page and the SQL text. The first page may be any.
abbrev pub IsTableRow : Row → Type 0
IsTableRow row = column row 1 ∷ column row 2 ∷ column row 3 ∷ column row 5 ∷ [] ≡ account.row

-- a database with these rows in sqlite_schema may hold accounts: it lists only their table, or nothing yet
abbrev pub MayHoldAccounts : List Row → Type 0
MayHoldAccounts rows = (length rows ≤ 1) × All IsTableRow rows

-- the files recover to a database of only the accounts' table, with these rows, or there is no table yet and no row
abbrev pub IsFoundIn : ℕ → Image → List Row → Type 0
IsFoundIn size image rows =
    ((pages : PageMap) × Recovers size image pages × ∥ IsFile size (account ∷ []) pages ∥₁
    × (file_trees size (account ∷ []) pages 0 ≡ rows) × ListsOne size pages)
    ⊎ (∥ IsUnstarted size image ∥₁ × (rows ≡ []))

-- the two files hold exactly these names with their texts
abbrev pub HoldsNames : Image → Texts → Type 0
HoldsNames image names = AreTexts names × IsFoundIn 4096 image (rows_of names)

-- The files recover to a sound database of the accounts' table, or no table was made yet. An open that does not check each page
-- supposes this.
abbrev pub AreSound : Image → Type 0
AreSound image = ((pages : PageMap) × Recovers 4096 image pages × IsFile 4096 (account ∷ []) pages) ⊎ IsUnstarted 4096 image

-- files that are sound so, with the rows of these names, each with a text of one line
abbrev pub HoldSoundly : Image → Texts → Type 0
HoldSoundly image names = AreTexts names × AreLines names
    × (((pages : PageMap) × Recovers 4096 image pages × IsFile 4096 (account ∷ []) pages
    × (file_trees 4096 (account ∷ []) pages 0 ≡ rows_of names))
    ⊎ (IsUnstarted 4096 image × (rows_of names ≡ [])))

-- the files hold some names soundly
abbrev pub AreHeld : Image → Type 0
AreHeld image = (names : Texts) × HoldSoundly image names

-- ---- the format of the rows

-- a SQLite database has these pages, and this number in its header as its user_version
abbrev pub HasVersion : PageMap → ℕ → Type 0
HasVersion pages n = (take 16 (header_in pages) ≡ codes "SQLite format 3" ++ 0 ∷ []) × (version_in pages ≡ n)

-- The files recover to a database with this number, which is not 0 and so says that its rows have another format. The format of
-- this release is 0, the number in each file whose program sets none.
abbrev pub HasOtherFormat : Image → ℕ → Type 0
HasOtherFormat image n = (n ≢ 0) × ((pages : PageMap) × Recovers 4096 image pages × HasVersion pages n)

-- ---- an open that fails

-- The log has room for a frame, and its header has the right first byte, but fails its test. The kit clears that byte before it
-- writes the others, and restores it last, so no crash leaves such a header.
abbrev pub IsDamaged : List ℕ → Type 0
IsDamaged log = (56 ≤ length log) × (slice_index log 0 ≡ 0x37) × (¬ IsSigned (header log))

-- the files recover to a database of only the accounts' table, with these rows, and with any size of a page
abbrev pub IsTableOf : Image → List Row → Type 0
IsTableOf image rows = (size : ℕ) × (schema : List Wanted) × (pages : PageMap) × IsPageSize (stored_size size)
    × Recovers size image pages × IsFile size schema pages × (listed_from 0 schema ≡ listed_from 0 (account ∷ []))
    × (file_trees size schema pages 0 ≡ rows)

-- An open may find these rows: the rows of the table, or none if there is no table yet.
abbrev pub MayHave : Image → List Row → Type 0
MayHave image rows = IsTableOf image rows ⊎ (IsUnstarted 4096 image × (rows ≡ []))

-- The files `left` stand for the files `before`: a crash might have left them before; or they recover to the same pages, if the
-- files `before` recover to any; or they have the same rows.
abbrev pub StandsFor : (Image → Type 0) → Image → Image → Type 0
StandsFor was before left =
    was left
    ⊎ ((RecoversAs 4096 before left × (IsUnreadable 4096 before → was left))
    ⊎ ((rows : List Row) × ∥ IsFoundIn 4096 before rows ∥₁ × ∥ MayHave left rows ∥₁))

-- Whatever a crash leaves of the new log and database file stands for the old files, while the disk has given no wrong answer
-- that was taken as true.
abbrev pub AreUnharmed : {D : Type 0} → Ghosts D → D × D → D × D → Type 0
AreUnharmed g old new = AreClean g new.0 new.1 → (left : Image) → outcomes g new.0 new.1 left
    → StandsFor (outcomes g old.0 old.1) (seen_image g old.0 old.1) left

-- the error of an open of files with a damaged log: the damage, or that the log can't be read
abbrev pub IsOfDamage : {D : Type 0} → Ghosts D → D → D → OpenError → Type 0
IsOfDamage g old new e = (e ≡ no.DamagedLog) ⊎ ((e ≡ no.Io) × MoreFaults (g.faults old) (g.faults new))

-- a call to the log or to the database file failed between these states of the two
abbrev pub HaveFailed : {D : Type 0} → Ghosts D → D × D → D × D → Type 0
HaveFailed g old new = MoreFaults (g.faults old.0) (g.faults new.0) ⊎ MoreFaults (g.faults old.1) (g.faults new.1)

-- the log has more frames than an open can count, some 17 terabytes
abbrev pub HasTooManyFrames : List ℕ → Type 0
HasTooManyFrames log = frame_at 4096 0xffff_fffe ≤ length log

-- the error of an open of a database with this number: the format, unless the log is damaged or too long, the disk fails, or
-- memory runs out
abbrev pub IsOfFormat : {D : Type 0} → Ghosts D → D × D → D × D → ℕ → OpenError → Type 0
IsOfFormat g old new n (no.Format m) = m ≡ n
IsOfFormat g old new n no.DamagedLog = ⊤
IsOfFormat g old new n no.OutOfMemory = ⊤
IsOfFormat g old new n no.Io = HaveFailed g old new
IsOfFormat g old new n no.Full = HasTooManyFrames (g.seen old.0)
IsOfFormat g old new n _ = ⊥

-- a crash leaves exactly what the two files hold
abbrev pub AreSynced : {D : Type 0} → Ghosts D → D × D → Type 0
AreSynced g files = Only (g.seen files.0) (g.may_leave files.0) × Only (g.seen files.1) (g.may_leave files.1)

-- How an open of a log and a database file fails: the log is damaged, the rows have another format, they are not the rows of
-- names with texts of one line, or the database has an error. The files are unharmed.
pub record IsOfPair {D : Type 0} (g : Ghosts D) (old new : D × D) (e : OpenError) : Type 0 where
  pub kind : (e ≡ no.Row) ⊎ ((e ≡ no.DamagedLog) ⊎ (((n : ℕ) × (e ≡ no.Format n)) ⊎ IsOfDatabase e))
  pub row : e ≡ no.Row → AreClean g new.0 new.1 → (names : Texts) → AreLines names
      → ¬ HoldsNames (seen_image g old.0 old.1) names
  pub damaged : e ≡ no.DamagedLog
      → (IsTrue (g.is_clean new.0) → IsDamaged (g.seen old.0)) × OnlyReads g old.0 new.0 × (new.1 ≡ old.1)
  pub damage : AreClean g new.0 new.1 → IsDamaged (g.seen old.0) → IsOfDamage g old.0 new.0 e
  pub format : (n : ℕ) → e ≡ no.Format n → OnlyReads g old.0 new.0 × OnlyReads g old.1 new.1 × (n ≢ 0)
      × (AreClean g new.0 new.1 → (pages : PageMap) → Recovers 4096 (seen_image g old.0 old.1) pages → HasVersion pages n)
  pub other : AreClean g new.0 new.1 → (n : ℕ) → HasOtherFormat (seen_image g old.0 old.1) n → IsOfFormat g old new n e
  pub unharmed : AreUnharmed g old new

-- A list of opens that failed, the newest first, each with the files that it found. The oldest open found `before`, each open
-- left files that stand for the files that it found, and the newest left `left`. A crash during an open counts as an open that
-- fails there, because files that have just been opened are synced.
abbrev pub IsAfterOpens : List Image → Image → Image → Type 0
IsAfterOpens [] before left = left ≡ before
IsAfterOpens (found ∷ older) before left =
    IsAfterOpens older before found × StandsFor (λ image. image ≡ found) found left

-- What a crash leaves of synced files counts as one more open that failed. An open finds no other names there than before all of
-- these opens.
abbrev pub LeavesNames : {D : Type 0} → Ghosts D → D × D → D × D → Type 0
LeavesNames g old new = AreSynced g old → AreUnharmed g old new
    → AreClean g new.0 new.1 → (left : Image) → outcomes g new.0 new.1 left
    → (opens : List Image) (before : Image) → IsAfterOpens opens before (seen_image g old.0 old.1)
    → IsAfterOpens (seen_image g old.0 old.1 ∷ opens) before left
    × ((names found : Texts) → HoldsNames before names → HoldsNames left found → found ≡ names)
