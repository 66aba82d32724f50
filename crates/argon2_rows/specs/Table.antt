-- What a table of names shows, and what a change of it leaves in the store.
use Rattle.std.specs.Prelude.{◌≡◌, ◌⊎◌, ℕ, ◌+◌, ◌^◌, ◌<◌, List, [], ◌∷◌, length, codes, false, Result, Ok, Err, IsTrue, IfErr, IsOkAnd, OnErr, OnOk, MatchResult, ◌≤◌, Any}
pub use Rattle.sqlite_disk.specs.Disk.{MoreFaults}
pub use Rattle.sqlite_value.specs.Keys.{plain}
pub use Rattle.sqlite_trees.specs.declared.error.StoreError.{StoreError}
pub use Rattle.sqlite_trees.specs.declared.error.StoreError.TheVariants.{Io}
pub use Rattle.sqlite_trees.specs.declared.store.Shape.TheVariants.{Index}
pub use Rattle.sqlite_trees.specs.declared.store.Store.{Ghosts}
pub use Rattle.sqlite_trees.specs.Objects.{catalog_tree}
pub use Rattle.sqlite_trees.specs.Tree.{Trees}
pub use Rattle.sqlite_trees.specs.View.{View, IsClean, IsQuiet, HasCause, Tells, doubt}
use Rattle.sqlite_store.specs.Listing.{listed_from}
use Rattle.sqlite_store.specs.declared.catalog.Wanted.{Wanted}
use Rattle.argon2_rows.specs.Names.{AddsAll, IsFirstTaken, Texts, AddError, Store, Taken}
use Rattle.argon2_rows.specs.Rows.{AreTexts, rows_of, Row, Text}

-- the table of the accounts, as `sqlite_schema` lists it
abbrev pub account : Wanted
account = record {
  shape = Index plain;
  reals = 0;
  row = Text (codes "table") ∷ Text (codes "account") ∷ Text (codes "account")
      ∷ Text (codes "CREATE TABLE account (name TEXT NOT NULL PRIMARY KEY, phc TEXT NOT NULL) WITHOUT ROWID") ∷ [];
}

-- what a database lists in `sqlite_schema` if the table of the accounts is all that it has
unfoldable pub catalog : List Row
catalog = listed_from 0 (account ∷ [])

-- the database has only that table, with the rows of these names
abbrev pub HoldsTable : Trees → Texts → Type 0
HoldsTable db names = (db 0 ≡ rows_of names) × (db catalog_tree ≡ catalog)

-- the transaction shows these names, unless it is broken
abbrev pub Sees : View → Texts → Type 0
Sees v names = v.is_broken ≡ false → HoldsTable v.trees names

-- the name or the text has more bytes than a new name or text may have (`MAX_LEN`)
abbrev pub IsLong : List ℕ × List ℕ → Type 0
IsLong e = (4096 < length e.0) ⊎ (4096 < length e.1)

-- the row of the name with the text is longer than any row may be
abbrev pub IsHuge : List ℕ × List ℕ → Type 0
IsHuge e = 10 ^ 9 < 36 + (length e.0 + length e.1)

-- nothing is written yet
pub record IsUnwritten (v : View) : Type 0 where
  pub indexed : v.shape 0 ≡ Index plain
  pub unbroken : v.is_broken ≡ false
  pub settled : v.trees ≡ v.committed
  pub shapes : v.shape ≡ v.committed_shape
  pub listed : v.trees catalog_tree ≡ catalog

-- the result of a call without its value
abbrev pub done_of : {X : Type 0} → Result X StoreError → Result (Unit {0}) StoreError
done_of (Ok x) = Ok tt
done_of (Err e) = Err e

-- the result of writing names if no name was taken
abbrev pub written_of : Result (Unit {0}) AddError → Result (Unit {0}) StoreError
written_of (Err (Store e)) = Err e
written_of _ = Ok tt

module _ {S : Type 0} (g : Ghosts S) where
  -- the disk has given no wrong answer that was taken as true
  abbrev pub IsHonest : S → Type 0
  IsHonest s = IsClean (g.view s)

  -- the store can be read and changed
  abbrev pub IsOpen : S → Type 0
  IsOpen s = IsTrue (g.view s).is_open

  -- whatever a crash at this moment leaves, it holds names with the property P
  abbrev pub CrashLeaves : S → (Texts → Type 0) → Type 0
  CrashLeaves s P = (db : Trees) → g.recovers s db → (names : Texts) × HoldsTable db names × P names

  -- While the store is open, its rows are the rows of these names, and no change waits to be committed.
  pub record IsKept (s : S) (names : Texts) : Type 0 where
    pub indexed : IsHonest s → IsOpen s → (g.view s).shape 0 ≡ Index plain
    pub shapes : IsHonest s → IsOpen s → (g.view s).shape ≡ (g.view s).committed_shape
    pub sound : IsHonest s → IsOpen s → (g.view s).is_broken ≡ false
    pub seen : IsHonest s → IsOpen s → HoldsTable (g.view s).trees names
    pub committed : IsHonest s → IsOpen s → HoldsTable (g.view s).committed names

  -- these are the names of the store's rows
  abbrev pub HasRows : S → Texts → Type 0
  HasRows s names = AreTexts names × IsKept s names

  -- the rows of the store are the rows of some names
  abbrev pub HasSome : S → Type 0
  HasSome s = ∥ ((names : Texts) × HasRows s names) ∥₁

  -- A transaction has begun over these names: they are committed, and a crash leaves them.
  pub record HasBegun (s : S) (names : Texts) : Type 0 where
    pub indexed : (g.view s).shape 0 ≡ Index plain
    pub shapes : (g.view s).shape ≡ (g.view s).committed_shape
    pub committed : IsOpen s → HoldsTable (g.view s).committed names
    pub left : (db : Trees) → g.recovers s db → HoldsTable db names

  -- the disk failed, or refused a call, between these two states
  abbrev pub HasFailed : S → S → Type 0
  HasFailed old new = MoreFaults (g.faults old) (g.faults new)

  -- The error has its cause. If a fault of the disk is the cause, it is the last fault that the store answered.
  abbrev pub IsDue : S → S → Type 0 → StoreError → Type 0
  IsDue old new too_long e = HasCause (g.view old) (HasFailed old new) too_long e × Tells (g.blamed new) e

  -- The fault is the last fault that the store answered. `Io` may also mean that the store is closed.
  abbrev pub TellsFault : S → StoreError → Type 0
  TellsFault s e = Tells (g.blamed s) e ⊎ ((e ≡ Io) × ((g.view s).is_open ≡ false))

  -- no fault is forgotten, and a crash has no new outcome
  abbrev pub StaysQuiet : S → S → Type 0
  StaysQuiet old new = IsQuiet g.view g.faults g.recovers g.is_shielded old new

  -- Rows are written into a transaction, up to the first failure: the transaction then shows the names `after` instead of
  -- `before`.
  pub record Writes (old new : S) (before after : Texts) (too_long : Type 0) (result : Result (Unit {0}) StoreError)
      : Type 0 where
    pub begun : (names : Texts) → IsHonest new → HasBegun old names → HasBegun new names
    pub sees : OnOk result (IsHonest new → Sees (g.view old) before → Sees (g.view new) after)
    pub broken : OnOk result (IsHonest new → (g.view new).is_broken ≡ (g.view old).is_broken)
    pub cause : IsHonest new → IfErr result (IsDue old new too_long)
    pub quiet : StaysQuiet old new

  -- The end of a call that reads rows: what a failure has left in the transaction is removed.
  pub record EndsRead {X : Type 0} (old new : S) (done : Result X StoreError) : Type 0 where
    pub same : OnOk done (new ≡ old)
    pub kept : (names : Texts) → (IsHonest new → HasBegun old names) → OnErr done (IsKept new names)
    pub blame : g.blamed new ≡ g.blamed old
    pub quiet : StaysQuiet old new

  -- The end of a call that writes rows: what was written is committed, or removed if writing or the commit has failed.
  pub record Finishes (old new : S) (done result : Result (Unit {0}) StoreError) : Type 0 where
    pub kept : (before after : Texts) → (IsHonest new → HasBegun old before × OnOk done (Sees (g.view old) after))
        → MatchResult result (λ _. IsKept new after) (λ _. IsKept new before)
    pub crash : (db : Trees) → g.recovers new db
        → IsOkAnd done (λ _. ((g.view old).is_broken ≡ false) × (db ≡ (g.view old).trees)) ⊎ g.recovers old db
    pub is_open : OnOk result (IsHonest new → IsOpen new)
    pub cause : IsHonest new
        → MatchResult done (λ _. IfErr result (IsDue old new ⊥)) (λ e. result ≡ Err e)
    pub blame : OnErr done (g.blamed new ≡ g.blamed old)
    pub closes : IsHonest new → IsOpen old → IsOpen new ⊎ HasFailed old new
    pub clean : doubt (g.view old).is_clean ≤ doubt (g.view new).is_clean
    pub counts : g.faults old ≤ g.faults new

  -- A change of the names `before` into the names `after`, with its result.
  pub record Changes (old new : S) (before after : Texts) (too_long : Type 0) (result : Result (Unit {0}) StoreError)
      : Type 0 where
    pub honest : IsHonest new → IsHonest old
    pub kept : MatchResult result (λ _. HasRows new after) (λ _. HasRows new before)
    pub crash : IsHonest new → CrashLeaves new (λ left. (left ≡ before) ⊎ (left ≡ after))
    pub durable : OnOk result (IsHonest new → IsOpen new × CrashLeaves new (λ left. left ≡ after))
    pub cause : IsHonest new
        → IfErr result (λ e. HasCause (g.view old) (HasFailed old new) too_long e × TellsFault new e)
    pub closes : IsHonest new → IsOpen new ⊎ HasFailed old new

  -- A change that adds all of several names, or none if it fails.
  abbrev pub AddsNames : S → S → Texts → List (List ℕ × List ℕ) → Result (Unit {0}) StoreError → Type 0
  AddsNames old new before es done = (after : Texts) × (IsHonest new → (after ≡ before) ⊎ AddsAll before es after)
      × OnOk done (IsHonest new → AddsAll before es after) × Changes old new before after (Any IsLong es) done

  -- The same, or the result is the index of the first name that has a text already. Then nothing changes.
  abbrev pub WritesAll : S → S → Texts → List (List ℕ × List ℕ) → Result (Unit {0}) AddError → Type 0
  WritesAll old new before es (Err (Taken k)) =
      HasRows new before × (IsHonest new → IsFirstTaken before es k) × StaysQuiet old new
  WritesAll old new before es result = AddsNames old new before es (written_of result)
