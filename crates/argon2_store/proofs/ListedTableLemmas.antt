-- A database that lists only the table of the accounts.
use Rattle.argon2_store.proofs.Imports.{◌≡◌, ℕ, List, [], ◌∷◌, inl, inr, refl, sym, ap, subst₂, arith, Row, PageMap, plain, Wanted}
use Rattle.argon2_store.proofs.Imports.{Image, Recovers, IsUnstarted, account, ◌≤◌, Index, same_listing, Table}
use Rattle.sqlite_store.specs.Listing.{all_trees, all_reals, all_shapes, listed_from, file_trees}
use Rattle.sqlite_pool.specs.File.{in_use, unlocked}
use Rattle.sqlite_pool.specs.FreeList.{live}
use Rattle.sqlite_pool.proofs.PoolLemmas.{none_of}
use Rattle.sqlite_pool.proofs.ProbeLemmas.{not_blank}
use Rattle.sqlite_pool.proofs.ResealLemmas.{adopts_of}
use Rattle.sqlite_btree.proofs.StoredLemmas.{stored_root_live}
use Rattle.sqlite_store.specs.Catalog.{describes, is_about, root_in}
use Rattle.sqlite_store.specs.Db.{roots_of, trees_in, rows_at, IsFile}
use Rattle.argon2_store.proofs.PageSizeLemmas.{page_size-unique}

-- a list of one table says all of it but its root
module _ (w : Wanted) (rest : List Wanted) (same : listed_from 0 (w ∷ rest) ≡ listed_from 0 (account ∷ [])) where
  -- the one table that is listed has the shape of the accounts' table
  account-shape : w.shape ≡ Index plain
  unfolding all_shapes
  account-shape = ap (λ f. f 0) (same_listing (w ∷ rest) (account ∷ []) same).0

  -- the one table that is listed has no column of reals
  account-reals : w.reals ≡ 0
  unfolding all_reals
  account-reals = rw account-shape at (ap (λ f. f 0) (same_listing (w ∷ rest) (account ∷ []) same).1)

  -- the one table that is listed has the root of the accounts' table
  account-root : (entries : List Row) → root_in entries w ≡ root_in entries account
  unfolding describes is_about
  account-root [] = refl
  account-root (entry ∷ entries) = grind (arith, account-shape, account-root entries)

-- the first tree of a database that lists only the accounts' table is the tree of this table
pub file_trees-account : (size : ℕ) (schema : List Wanted) (pages : PageMap) → listed_from 0 schema ≡ listed_from 0 (account ∷ [])
    → file_trees size schema pages 0 ≡ file_trees size (account ∷ []) pages 0
unfolding all_trees trees_in roots_of
file_trees-account size [] pages same = absurd cc
file_trees-account size (w ∷ rest) pages same =
    rw (account-root w rest same, account-shape w rest same, account-reals w rest same)

-- a database of the accounts' table lists something
IsFile-lists_table : (size : ℕ) (schema : List Wanted) (pages : PageMap) → listed_from 0 schema ≡ listed_from 0 (account ∷ [])
    → IsFile size schema pages → rows_at size (in_use size pages) Table 1 ≡ [] → ⊥
unfolding roots_of in_use live unlocked
IsFile-lists_table size [] pages same file none = absurd cc
IsFile-lists_table size (w ∷ rest) pages same file none =
    let kept = rw (account-shape w rest same, none) at (file.db.trees.kept 1) in
    let page = (file.db.trees.laid 1).nodes 0 (stored_root_live kept.1.stored) in grind (arith, none_of, file.sound)

-- a database of the accounts' table is not a database that is still to be begun
pub not_IsUnstarted-table : (size : ℕ) (schema : List Wanted) (img : Image) (pages : PageMap) → 504 ≤ size
    → Recovers size img pages
    → IsFile size schema pages → listed_from 0 schema ≡ listed_from 0 (account ∷ []) → ¬ IsUnstarted 4096 img
not_IsUnstarted-table size schema img pages large recs file list (inl blank) =
    not_blank size img pages (adopts_of size img pages recs) large file.sound 4096 (omega arith) blank
not_IsUnstarted-table size schema img pages large recs file list (inr bare) =
    let (sized, one) = page_size-unique img size 4096 pages bare.0 recs bare.1 large (omega arith) file.sound bare.2 in
    IsFile-lists_table size schema pages list file
    (subst₂ (λ n p. rows_at n (in_use n p) Table 1 ≡ []) (sym sized) (sym one) bare.3)
