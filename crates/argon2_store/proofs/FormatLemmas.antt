-- The header of a database, as an open reads it.
use Rattle.argon2_store.proofs.Imports.{arith, inl, inr, ap, sym, refl, subst, ◌∙◌, ◌≡◌, ◌≤◌, ◌<◌, ◌+◌, ◌*◌, ◌≢◌, ℕ, List, [], ◌∷◌, ◌++◌, codes, length, slice_index, take, unwrap_or, Some, IsSome}
use Rattle.argon2_store.proofs.Imports.{Image, Recovers, PageMap, HasVersion, IsOfFormat, log_error, LogError, held_is_part, Replays, header_in, version_in}
use Rattle.std.proofs.Common.{get_or-take, take-take, None, Option, option_map}
use Rattle.std.proofs.Math.Seq.{take-length}
use Rattle.sqlite_disk.specs.Disk.{Holds}
use Rattle.sqlite_disk.specs.declared.Disk.{Ghosts}
use Rattle.sqlite_pool.specs.Header.{user_version}
use Rattle.sqlite_pool.specs.Stored.{trimmed}
use Rattle.sqlite_wal.proofs.PartLemmas.{part-part, part_within}
use Rattle.sqlite_wal.proofs.ScanLemmas.{Takes, first_in_file, first_in_log}
use Rattle.sqlite_wal.specs.Format.{part}
use Rattle.sqlite_wal.specs.Index.{IsLatest}
use Rattle.sqlite_wal.specs.Opening.{RefusesLog}
use Rattle.sqlite_wal.specs.Outcome.{HasCause}
use Rattle.sqlite_wal.specs.Recovery.{AreFramesOf, frame_at, frames_len}
use Rattle.sqlite_wal.specs.declared.error.Error.TheVariants.{Io, OutOfMemory, Closed, NoSuchPage, Full, Corrupt, Exists}

-- the frames that are listed are those that recovery reads
Takes-AreFramesOf : (size : ℕ) (log numbers : List ℕ) → AreFramesOf size log numbers → Takes size log numbers
Takes-AreFramesOf size log numbers (inl (ignored, none), each) = (inl (ignored, none), λ i low. absurd (omega (arith, none, low)))
Takes-AreFramesOf size log numbers (inr (taken, last), each) = (inr (taken, last), λ i low. (each i low, taken.valid i low))

-- the first 64 bytes of a page are what the file holds there
take-part : (file head first : List ℕ) (at : ℕ) → Holds file at head → length head ≡ 64 → part file at 4096 ≡ first → length first
    ≡ 4096
    → take 64 first ≡ head
unfolding part
take-part file head first at held len is whole =
    let within = part_within file at 4096 (omega arith) (ap length is ∙ whole) in
    ap (take 64) (sym is) ∙ part-part file at 4096 0 64 within (omega arith)
    ∙ held_is_part file head (at + 0) 64 (subst (λ n. Holds file n head) (omega arith) held) len

-- the header that was read is the header of the pages
abbrev pub IsHead : PageMap → List ℕ → Type 0
IsHead pages head = (take 16 (header_in pages) ≡ take 16 head) × (version_in pages ≡ user_version head)

-- an option with a value is Some of its value
unwrap-IsSome : (o : Option (List ℕ)) → IsSome o → o ≡ Some (unwrap_or o [])
unwrap-IsSome None some = absurd cc
unwrap-IsSome (Some x) some = refl

-- the version of a header is in its first 64 bytes
user_version-take : (first head : List ℕ) → take 64 first ≡ head → user_version (take 100 first) ≡ user_version head
user_version-take first head same_front =
    let same = λ (i : ℕ) (low : i < 64). get_or-take 100 first i 0 (omega (arith, low)) ∙ sym (get_or-take 64 first i 0 low)
    ∙ ap (λ (l : List ℕ). slice_index l i) same_front in
    let a = same 60 (omega arith) in
    let b = same 61 (omega arith) in
    let c = same 62 (omega arith) in
    let d = same 63 (omega arith) in
    cc

-- the first 64 bytes of the first page are the header of the pages
IsHead-page : (stored pages : PageMap) (first head : List ℕ) → trimmed 4096 stored ≡ pages → stored 1 ≡ Some first
    → length first ≡ 4096
    → take 64 first ≡ head → IsHead pages head
unfolding trimmed
IsHead-page stored pages first head shows is whole begins =
    let page : pages 1 ≡ Some first =
    ap (λ (p : PageMap). p 1) (sym shows) ∙ ap (option_map (take 4096)) is
    ∙ ap Some (ap (λ n. take n first) (sym whole) ∙ take-length first) in
    let bytes = ap (λ (o : Option (List ℕ)). unwrap_or o []) page in (
      ap (λ l. take 16 (take 100 l)) bytes ∙ take-take 16 100 first (omega arith) ∙ sym (take-take 16 64 first (omega arith))
          ∙ ap (take 16) begins,
      ap (λ l. user_version (take 100 l)) bytes ∙ user_version-take first head begins,
    )

module _ (image : Image) (numbers : List ℕ) (frames : AreFramesOf 4096 image.log numbers) (pages : PageMap)
    (recs : Recovers 4096 image pages) where
  -- the first page
  abbrev first : List ℕ
  first = unwrap_or (recs.stored 1) []

  -- recovery gives the first page
  first-stored : recs.stored 1 ≡ Some first
  first-stored = unwrap-IsSome (recs.stored 1) recs.whole.first

  -- the first page has 4096 bytes
  first-length : length first ≡ 4096
  first-length = recs.whole.sized 1 first first-stored

  -- 64 bytes of the last frame with the first page are the header of the pages
  pub IsHead-in_log : (i : ℕ) (head : List ℕ) → IsLatest numbers 1 i → Holds image.log (56 + i * 4120) head → length head ≡ 64
      → IsHead pages head
  unfolding frames_len
  IsHead-in_log i head last held len =
      let page = first_in_log 4096 image numbers
      (Takes-AreFramesOf 4096 image.log numbers frames) recs.stored first recs.found first-stored i last in
      let at : frame_at 4096 i + 24 ≡ 56 + i * 4120 = omega arith in
      IsHead-page recs.stored pages first head recs.shows first-stored first-length
      (take-part image.log head first (56 + i * 4120) held len (ap (λ n. part image.log n 4096) (sym at) ∙ page) first-length)

  -- if no frame has the first page, it is the beginning of the database file
  first-in_file : ((i : ℕ) → i < length numbers → slice_index numbers i ≢ 1) → part image.db 0 4096 ≡ first
  first-in_file none = first_in_file 4096 image numbers
      (Takes-AreFramesOf 4096 image.log numbers frames) recs.stored first recs.found first-stored none

  -- if no frame has the first page, 64 bytes of the database file are the header of the pages
  pub IsHead-in_file : ((i : ℕ) → i < length numbers → slice_index numbers i ≢ 1) → (head : List ℕ) → Holds image.db 0 head
      → length head ≡ 64
      → IsHead pages head
  IsHead-in_file none head held len =
      IsHead-page recs.stored pages first head recs.shows first-stored first-length
      (take-part image.db head first 0 held len (first-in_file none) first-length)

  -- if no frame has the first page, the database file has at least a page
  pub file-length : ((i : ℕ) → i < length numbers → slice_index numbers i ≢ 1) → 4096 ≤ length image.db
  file-length none = let within = part_within image.db 0 4096 (omega arith) (ap length (first-in_file none) ∙ first-length)
      in omega (arith, within)

-- the number in the header that was read is the version of the pages
pub IsHead-HasVersion : (pages : PageMap) (head : List ℕ) (format : ℕ) → IsHead pages head
    → (format ≢ 0 → take 16 head ≡ codes "SQLite format 3" ++ 0 ∷ [])
    → (take 16 head ≡ codes "SQLite format 3" ++ 0 ∷ [] → format ≡ user_version head)
    → (format ≢ 0 → HasVersion pages format) × ((n : ℕ) → n ≢ 0 → HasVersion pages n → format ≡ n)
IsHead-HasVersion pages head format is named found = (
  λ some. (is.0 ∙ named some, is.1 ∙ sym (found (named some))),
  λ n some has. found (sym is.0 ∙ has.0) ∙ sym is.1 ∙ has.1,
)

-- a log of files that recover is refused only if it is too long, or because of the disk or of memory
pub IsOfFormat-RefusesLog : {D : Type 0} (g : Ghosts D) (old new : D × D) (k : ℕ) → Replays 4096 (g.seen old.0) k → (e : LogError)
    → HasCause (g.faults old.0) (g.faults new.0) (RefusesLog 4096 (g.seen old.0)) e
    → (n : ℕ) → IsOfFormat g old new n (log_error e)
IsOfFormat-RefusesLog g old new k replays (Io e) cause n = inl cause
IsOfFormat-RefusesLog g old new k replays OutOfMemory cause n = tt
IsOfFormat-RefusesLog g old new k replays Closed (inl (is, none)) n = absurd cc
IsOfFormat-RefusesLog g old new k replays Closed (inr (is, none)) n = absurd cc
IsOfFormat-RefusesLog g old new k replays NoSuchPage (inl (is, none)) n = absurd cc
IsOfFormat-RefusesLog g old new k replays NoSuchPage (inr (is, none)) n = absurd cc
IsOfFormat-RefusesLog g old new k replays Full (inl (is, none)) n = absurd cc
IsOfFormat-RefusesLog g old new k replays Full (inr (is, long)) n = long
IsOfFormat-RefusesLog g old new k replays Corrupt (inl (is, none)) n = absurd (none k replays)
IsOfFormat-RefusesLog g old new k replays Corrupt (inr (is, none)) n = absurd cc
IsOfFormat-RefusesLog g old new k replays Exists (inl (is, none)) n = absurd cc
IsOfFormat-RefusesLog g old new k replays Exists (inr (is, none)) n = absurd cc

-- a frame that recovery reads lies within the log
pub frame-within : (log numbers : List ℕ) → AreFramesOf 4096 log numbers → (i : ℕ) → i < length numbers
    → 32 + (i + 1) * 4120 ≤ length log
unfolding frames_len
frame-within log numbers (inl (ignored, none), each) i low = absurd (omega (arith, none, low))
frame-within log numbers (inr (taken, last), each) i low = let it = (taken.valid i low).within in omega (arith, it)
