-- What the rows of a table are after each step of a change.
use Rattle.argon2_rows.proofs.Imports.{◌≡◌, Result, Ok, Err, false, refl, IsTrue, arith, inl, inr, IfErr, IsErrAnd, MatchResult, OnOk, plain, StoreError, Index, Ghosts, Trees, View}
use Rattle.argon2_rows.proofs.Imports.{KeepsSchema, Texts, AreTexts, Changes, EndsRead, Finishes, HasBegun, HasRows, HasSome, IsHonest, IsKept, IsOpen, CrashLeaves, Sees, StaysQuiet}
use Rattle.argon2_rows.proofs.Imports.{Writes, done_of, IsDue, TellsFault, HasCause, MoreFaults}
use Rattle.std.specs.Coded.{Coded-set}
use Rattle.std.proofs.Math.Logic.{∥∥₁_elim, ∥∥₁_map}
use Rattle.sqlite_trees.specs.contracts.store.Shape.{the_row}

-- ---- answers

-- a result whose error is e is Err e
pub err_is : {X E : Type 0} (r : Result X E) (e : E) → IsErrAnd r (λ f. f ≡ e) → r ≡ Err e
err_is r e is = grind arith

-- a fact holds if the result is Ok
pub OnOk-constant : {T E P : Type 0} (r : Result T E) → P → OnOk r P
OnOk-constant r p = search arith

-- two facts that hold if the result is Ok give a third
OnOk-zip : {T E P Q R : Type 0} (W : Type 0) (r : Result T E) → MatchResult r (λ _. P) (λ _. W) → OnOk r Q → (P → Q → R)
    → OnOk r R
OnOk-zip W r p q then = grind arith

-- ---- what a crash leaves

-- while a store is open, a crash leaves its last commit
abbrev pub IsSettled : {S : Type 0} → Ghosts S → Type 0
IsSettled {S} g = (s : S) (db : Trees) → IsOpen g s → g.recovers s db → db ≡ (g.view s).committed

-- after a call that changes nothing a crash leaves the same names
pub crash_leaves-quiet : {S : Type 0} (g : Ghosts S) → IsSettled g → (old new : S) (names : Texts) → IsKept g old names
    → StaysQuiet g old new → IsHonest g new → IsOpen g old → CrashLeaves g new (λ left. left ≡ names)
crash_leaves-quiet g settled old new names kept quiet clean is_open db found =
    let was : IsHonest g old = omega (arith, clean, quiet.clean) in (names, search arith, refl)

-- ---- causes

-- an error has its cause also by weaker conditions
pub HasCause-map : (old new : View) {P Q R U : Type 0} → (IsTrue old.is_broken → IsTrue new.is_broken) → (P → Q) → (R → U)
    → (e : StoreError) → HasCause old P R e → HasCause new Q U e
HasCause-map old new b f h e cause = grind arith

-- ---- writing

module _ {S : Type 0} (g : Ghosts S) where
  -- a store that is not called stays quiet
  pub StaysQuiet-refl : (s : S) → StaysQuiet g s s
  StaysQuiet-refl s = search arith

  -- two quiet calls, one after the other, are quiet
  pub StaysQuiet-trans : (a b c : S) → StaysQuiet g a b → StaysQuiet g b c → StaysQuiet g a c
  StaysQuiet-trans a b c x y = search arith

  -- the first tree is an index by one column after a quiet call that keeps the schema
  pub index_shape-kept : {a b : S} → KeepsSchema (g.view a) (g.view b) → StaysQuiet g a b
      → (IsHonest g a → (g.view a).shape 0 ≡ Index plain) → IsHonest g b → (g.view b).shape 0 ≡ Index plain
  index_shape-kept schema quiet had clean = search arith

  -- the first tree of a store with the rows of names is an index by one column
  pub index_shape-HasSome : {s : S} → HasSome g s → (IsHonest g s → IsOpen g s) → IsHonest g s → (g.view s).shape 0 ≡ Index plain
  index_shape-HasSome some is_open clean =
      ∥∥₁_elim some (Coded-set the_row.coded _ _) (λ it. it.1.1.indexed clean (is_open clean))

  -- a store that shows the same rows has the same names
  pub HasRows-same_view : (old new : S) (names : Texts) → (IsHonest g new → IsHonest g old)
      → (IsOpen g new → g.view new ≡ g.view old)
      → HasRows g old names → HasRows g new names
  HasRows-same_view old new names honest same has = search arith

  -- a call that only reads: the rows are still the rows of the names
  abbrev pub KeepsRows : {X : Type 0} → S → S → Texts → Result X StoreError → Type 0
  KeepsRows old new names done = HasRows g new names × OnOk done (IsHonest g new → IsOpen g new)
      × (IsHonest g new → IfErr done (IsDue g old new ⊥)) × StaysQuiet g old new

module _ {S : Type 0} {g : Ghosts S} where
  -- rows that are written after others are written together with these
  pub Writes-trans : {a b c : S} {x y z : Texts} {P Q R : Type 0} {r : Result (Unit {0}) StoreError} → Writes g a b x y P (Ok tt)
      → Writes g b c y z Q r → (Q → R) → Writes g a c x z R r
  Writes-trans first later more = search arith

  -- rows are written also under a weaker condition for a text that is too long
  pub Writes-map : {a b : S} {x y : Texts} {P Q : Type 0} {r : Result (Unit {0}) StoreError} → Writes g a b x y P r → (P → Q)
      → Writes g a b x y Q r
  Writes-map wrote more = search (arith, HasCause-map)

  -- an error of `finish` has the cause of the failed write, or of the failed commit
  finish-cause : {a b c : S} {x y : Texts} {P : Type 0} (done result : Result (Unit {0}) StoreError) → Writes g a b x y P done
      → Finishes g b c done result → IsHonest g c
      → IfErr result (λ e. HasCause (g.view a) (MoreFaults (g.faults a) (g.faults c)) P e × TellsFault g c e)
  finish-cause (Ok x) result wrote ends clean = grind (arith, HasCause-map)
  finish-cause (Err e) result wrote ends clean =
      let first = wrote.cause (omega (arith, clean, ends.clean)) in
      rw (ends.cause clean) (grind (arith, HasCause-map), inl (rw ends.blame first.1))

  -- ---- a store with names

  -- if each call keeps the names, the store still has some
  pub HasSome-map : {old new : S} → HasSome g old → ((names : Texts) → HasRows g old names → HasRows g new names) → HasSome g new
  HasSome-map some keeps = ∥∥₁_map some (λ it. (it.0, keeps it.0 it.1))

  -- after a change the store has the names from after the change or from before it
  pub HasRows-Changes : {old new : S} {before after : Texts} {long : Type 0} (result : Result (Unit {0}) StoreError)
      → Changes g old new before after long result → (names : Texts) × HasRows g new names
  HasRows-Changes {after = after} (Ok x) change = (after, change.kept)
  HasRows-Changes {before = before} (Err e) change = (before, change.kept)

  module _ (settled : IsSettled g) {old : S} (was_open : IsHonest g old → IsOpen g old) where
    -- after what was written is removed the store has the names from before
    pub HasRows-undo : {mid new : S} {before after : Texts} {long : Type 0} {r : Result (Unit {0}) StoreError}
        → HasRows g old before → Writes g old mid before after long r
        → ((IsHonest g new → HasBegun g mid before) → IsKept g new before) → StaysQuiet g mid new → HasRows g new before
    HasRows-undo has wrote undone quiet = search arith

    -- a call that reads rows, and removes what a failure left, keeps the rows
    pub KeepsRows-EndsRead : {X : Type 0} {mid new : S} {names : Texts} (done : Result X StoreError)
        → ((s : S) → (g.view s).is_open ≡ false → IsTrue (g.view s).is_broken) → HasRows g old names
        → (AreTexts names → (IsHonest g old → Sees (g.view old) names) → Writes g old mid names names ⊥ (done_of done))
        → EndsRead g mid new done → KeepsRows g old new names done
    KeepsRows-EndsRead done shut has writes ends =
        let wrote =
        writes has.0 (λ clean unbroken. has.1.seen clean (was_open clean)) in search (arith, HasCause-map, HasRows-undo)

    -- rows that are written, and then committed or removed, are a change of the names
    pub Changes-Finishes : {mid new : S} {before after : Texts} {long : Type 0} (done result : Result (Unit {0}) StoreError)
        → HasRows g old before → AreTexts after → Writes g old mid before after long done
        → Finishes g mid new done result → Changes g old new before after long result
    Changes-Finishes {mid} {new} {before} {after} {long} done result (texts, kept) fine wrote ends =
        let to_old : IsHonest g new → IsHonest g old = λ now. omega (arith, now, ends.clean, wrote.quiet.clean) in
        let begun : IsHonest g new → HasBegun g mid before =
        λ now. wrote.begun before (omega (arith, now, ends.clean)) (search arith) in
        let sees : IsHonest g new → OnOk done (Sees (g.view mid) after) = λ now. search arith in
        let is = ends.kept before after (λ now. (begun now, sees now)) in
        record {
          honest = to_old;
          -- facts of calls that change nothing, for the search
          kept = grind arith;
          crash = λ now db found. elim (ends.crash db found) [
            | inl made ↦ (after, (let seen = sees now in grind arith), inr refl)
            | inr earlier ↦ (before, (begun now).left db earlier, inl refl)
          ];
          durable = OnOk-zip _ result is ends.is_open (λ ended opens clean.
              (opens clean, crash_leaves-quiet g settled new new after ended (StaysQuiet-refl g new) clean (opens clean)));
          cause = finish-cause done result wrote ends;
          closes = λ now. grind arith;
        }

-- what no call changes
pub ruleset kept = (StaysQuiet-refl, StaysQuiet-trans, index_shape-HasSome, index_shape-kept)
