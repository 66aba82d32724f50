-- The size of a page of a database, and the first byte of its first page.
use Rattle.argon2_store.proofs.Imports.{◌≡◌, ℕ, [], inl, inr, sym, ap, ◌∙◌, arith, PageMap, AreWhole, Image, IsBlankFile, Recovers, IsSoundFile, ◌≤◌}
use Rattle.argon2_store.proofs.Imports.{length, slice_index, unwrap_or, cases_eq, part, IsIgnored, Replays, part_within, slice_index-part, range_with_len, length-map, sealed, stored_size, length-sealed, recovers_once}
use Rattle.sqlite_wal.proofs.RecoveryLemmas.{recovers_once as raw_once, replays_once}
use Rattle.sqlite_wal.proofs.AppendLemmas.{page_from_pages, some_value}
use Rattle.sqlite_pool.specs.Header.{first_page}
use Rattle.std.proofs.lemmas.List.FromFn.{length-range_with_len}
use Rattle.sqlite_pool.proofs.ProbeLemmas.{first_byte, reserved_word, size_by_file, size_by_log}
use Rattle.sqlite_pool.proofs.ResealLemmas.{adopts_of}
use Rattle.sqlite_wal.specs.Recovery as raw

-- two files hold a sound database with only one size of a page, and with the same pages
pub page_size-unique : (img : Image) (a b : ℕ) (p q : PageMap) → Recovers a img p → Recovers b img q → 504 ≤ a → 504 ≤ b
    → IsSoundFile a p
    → IsSoundFile b q → (a ≡ b) × (p ≡ q)
page_size-unique img a b p q found also large big sound whole =
    let first = adopts_of a img p found in
    let second = adopts_of b img q also in
    let apart : ¬ ¬ (stored_size a ≡ stored_size b) = λ never.
    let ignored = λ (read : ¬ IsIgnored img.log).
    never (sym (size_by_log a img p first read) ∙ size_by_log b img q second read) in
    ignored (λ none. never (sym (size_by_file a img p first large sound none) ∙ size_by_file b img q second big whole none)) in
    let stored : stored_size a ≡ stored_size b = grind arith in
    let pages = raw_once _ img _ _ (rw stored at first.found) second.found in
    let size : a ≡ b = grind (arith, reserved_word a img p first, reserved_word b img q second) in
    (size, recovers_once b img p q (rw size at found) also)

-- the first byte of the first page
abbrev pub leading_byte : PageMap → ℕ
leading_byte pages = slice_index (unwrap_or (pages 1) []) 0

-- without a frame in the log the first page is the beginning of the database file
leading_byte-file : (size : ℕ) (img : Image) (q : PageMap) → raw.Recovers size img q → AreWhole size q → 1 ≤ size
    → Replays size img.log 0 → (size ≤ length img.db) × (leading_byte q ≡ slice_index img.db 0)
leading_byte-file size img q found whole some none =
    let (page, is) = some_value (q 1) whole.first in
    let zero = replays_once size img.log found.frames 0 found.replays none in
    let alone = rw (zero, is) at (ap (λ (p : PageMap). p 1) found.gives) in
    let head : part img.db 0 size ≡ page = search (arith, page_from_pages size img.log img.db 0 1 page alone) in
    let long = part_within img.db 0 size (omega arith) (ap length head ∙ whole.sized 1 page is) in
    grind (arith, slice_index-part img.db 0 size 0)

-- a sound database of any page size begins with the S of SQLite's magic, also if it is read as pages of 4096 bytes
pub leading_byte-magic : (size : ℕ) (img : Image) (pages : PageMap) → Recovers size img pages → 504 ≤ size
    → IsSoundFile size pages
    → (q : PageMap) → raw.Recovers 4096 img q → AreWhole 4096 q → leading_byte q ≡ 83
leading_byte-magic size img pages recs large sound q found whole =
    let ours = adopts_of size img pages recs in
    let word = reserved_word size img pages ours large sound in
    let starts : leading_byte ours.stored ≡ 83 = rw word.1 word.4 in
    elim (cases_eq (stored_size size) 4096) [
      | inl same ↦ ap leading_byte (raw_once 4096 img q ours.stored found (rw same at ours.found)) ∙ starts
      | inr other ↦
          let none : Replays 4096 img.log 0 × Replays (stored_size size) img.log 0 =
          let own = ours.found.replays in let also = found.replays in grind arith in
          (leading_byte-file 4096 img q found whole (omega arith) none.0).1
          ∙ sym (leading_byte-file (stored_size size) img ours.stored ours.found ours.whole (omega arith) none.1).1 ∙ starts
    ]

-- files without a database do not begin with the S of SQLite's magic
pub leading_byte-blank : (img : Image) → IsBlankFile 4096 img → (q : PageMap) → raw.Recovers 4096 img q → AreWhole 4096 q
    → ¬ (leading_byte q ≡ 83)
unfolding first_page
leading_byte-blank img (inl none) q found whole is = omega (arith, none, found.present)
leading_byte-blank img (inr blank) q found whole is =
    let first : length (sealed (first_page 4096)) ≡ 4096 =
    search (arith, length-sealed, length-map, range_with_len, length-range_with_len) in
    let (long, byte) = leading_byte-file 4096 img q found whole (omega arith) (rw first at blank.0) in
    let db : slice_index img.db 0 ≡ 83 = sym byte ∙ is in
    let first = first_byte 4096 (omega arith) in grind arith
