-- What calls make of a file, and what an open finds after them.
use Rattle.argon2_store.proofs.Imports.{arith, ◌≡◌, ◌⊎◌, ℕ, List, [], ◌∷◌, ◌++◌, Result, Ok, Err, inl, inr, refl, sym, subst, ◌∙◌, append_assoc, cases_Bool, empty, get, ∥∥₁_elim}
use Rattle.argon2_store.proofs.Imports.{∥∥₁_map, flat_map, SeenMayStay, settled_at, FileStore, Trees, Ghosts, bytes_eq-Decides, Answers, Texts, IsClosed, database_of, NamedEdit}
use Rattle.argon2_store.proofs.Imports.{gives, left_by, names_after, is_refusal, AreEventsOf, AreMade, DoAll, Does, EndsRun, FileEvent, FileCall, IsFoundAfter, IsLate}
use Rattle.argon2_store.proofs.Imports.{IsLateOf, IsShutOut, FileRun, events_of, makes, text_by, over_file, reads, IsHonest, IsOpen, CrashLeaves, AccountFile, FileError, HasNames, IsReady}
use Rattle.argon2_store.proofs.Imports.{IsSettled, IsTableOf, get-changed_any, rows_of-injective, get-empty}
use Rattle.argon2_store.proofs.NextOpenLemmas.{next_open-recovers}
use Rattle.argon2_store.proofs.OpenLemmas.{IsTableOf-crash}
use Rattle.sqlite_disk.specs.declared.Disk as disk

-- ---- events

-- names that events made of names which earlier events made
AreMade-then : (first mid last : Texts) (newer older : List FileEvent) → AreMade first older mid → AreMade mid newer last
    → AreMade first (newer ++ older) last
AreMade-then first mid last [] older earlier later = rw later earlier
AreMade-then first mid last (event ∷ newer) older earlier later =
    (later.0, AreMade-then _ mid later.0 newer _ earlier later.1, later.2)

-- the text of a name after edits is what these edits leave of its text
get-names_after : (edits : List NamedEdit) (names after : Texts) → names_after edits names ≡ Ok after → (name : List ℕ)
    → get after name ≡ left_by name edits (get names name)
get-names_after [] names after is name = cc
get-names_after ((edited, edit) ∷ edits) names after is name =
    let at = get-changed_any names edited name (gives edit (get names edited)) in
    grind (arith, get-names_after edits, at, bytes_eq-Decides name edited)

-- the text of a name after events on no names is what their edits left
pub get-AreMade : (events : List FileEvent) (names : Texts) → AreMade empty events names → (name : List ℕ)
    → get names name ≡ text_by name events
get-AreMade [] names is name = rw (is, get-empty)
get-AreMade ((edits, Ok x) ∷ older) names (before, earlier, step) name =
    grind (arith, get-names_after edits before names step name, get-AreMade older before earlier name)
get-AreMade ((edits, Err e) ∷ older) names (before, earlier, step) name =
    grind (arith, get-AreMade older before earlier name)

-- ---- calls

-- the names after a call are what its events made of the names before it
AreMade-Answers : (before after : Texts) (edits : List NamedEdit) (result : Result (Unit {0}) FileError)
    → Answers before edits result after
    → AreMade before (events_of (makes edits result)) after
AreMade-Answers before after edits (Ok x) is = (before, refl, is)
AreMade-Answers before after edits (Err e) is =
    elim (cases_Bool (is_refusal e)) [ inl refused ↦ rw refused (before, refl, is) | inr of_file ↦ rw of_file is.1 ]

module _ {S : Type 0} {g : Ghosts S} (settled : IsSettled g) (first : Texts) where
  -- The names that events made of the first names. A crash leaves these names, or the names with events that come late.
  pub record Reached (events : List FileEvent) (Late : List FileEvent → Type 0) (file : AccountFile S g) : Type 0 where
    pub names : Texts
    pub has : HasNames file names
    pub run : IsHonest g (database_of file) → AreMade first events names
    pub left : IsHonest g (database_of file) → CrashLeaves g (database_of file)
        (λ left. (late : List FileEvent) × Late late × AreMade first (late ++ events) left)

  module _ (calls : List FileCall) (old new : AccountFile S g)
      (before : Reached (flat_map events_of calls) (IsLate calls) old) where
    -- the events of the calls so far
    abbrev events : List FileEvent
    events = flat_map events_of calls

    -- nothing comes late, or this call, or what came late of the calls before it if this call was shut out
    abbrev IsLateNow : (List FileEvent → Type 0) → Type 0 → List FileEvent → Type 0
    IsLateNow Late Shut late = (late ≡ []) ⊎ (Late late ⊎ (Shut × IsLate calls late))

    -- newer events that a call made are reached from the names before it
    Reached-then : (Late : List FileEvent → Type 0) (Shut : Type 0) (newer : List FileEvent) (after : Texts)
        → HasNames new after → (IsHonest g (database_of new) → IsHonest g (database_of old))
        → (IsHonest g (database_of new) → AreMade before.names newer after)
        → (IsHonest g (database_of new) → IsOpen g (database_of old) → CrashLeaves g (database_of new)
        (λ left. (left ≡ after) ⊎ ((late : List FileEvent) × Late late × AreMade after late left)))
        → (IsHonest g (database_of new) → IsClosed old → Shut × (newer ≡ [])
        × ((db : Trees) → g.recovers (database_of new) db → g.recovers (database_of old) db))
        → Reached (newer ++ events) (IsLateNow Late Shut) new
    Reached-then Late Shut newer after has honest step crash closed =
        let run = λ (clean : IsHonest g (database_of new)).
        AreMade-then first before.names after newer events (before.run (honest clean)) (step clean) in
        record {
          names = after;
          has = has;
          run = run;
          left = λ clean db found. elim (cases_Bool (g.view (database_of old)).is_open) [
            | inl is_open ↦ let (names, held, left) = crash clean is_open db found in (
              names,
              held,
              elim left [
                | inl is ↦ ([], inl refl, rw is (run clean))
                | inr more ↦ (more.0, inr (inl more.1), AreMade-then _ after _ more.0 _ (run clean) more.2)
              ],
            )
            | inr is_closed ↦ let (shut, none, was) = closed clean is_closed in
                let (names, held, more) = before.left (honest clean) db (was db found) in
                (names, held, (more.0, inr (inr (shut, more.1)), rw none more.2))
          ];
        }

    -- the events of one more call are reached
    pub Reached-call : (call : FileCall) → Does call old new
        → Reached (events_of call ++ events) (IsLateNow (IsLateOf call) (IsShutOut call)) new
    Reached-call (makes edits result) serve =
        let (after, does) = serve before.names before.has in
        Reached-then (IsLateOf (makes edits result)) _ _ after does.has does.honest
        (λ clean. AreMade-Answers before.names after edits result (does.answers clean))
        (λ clean is_open db found. let (left, held, is) = does.crash clean is_open db found in (
          left,
          held,
          elim is [
            | inl same ↦ inl same
            | inr late ↦ let made = does.answers clean in inr ((edits, Ok tt) ∷ [], grind arith, (after, refl, grind arith))
          ],
        ))
        (λ clean is_closed. let (shut, same) = does.closed (does.honest clean) is_closed in search arith)
    Reached-call (reads error) stay =
        let does = stay before.names before.has in
        Reached-then (λ late. ⊥) _ [] before.names does.has (search arith) (λ clean. refl)
        (λ clean is_open db found. let left = does.left clean is_open db found in (left.0, left.1, inl left.2))
        (λ clean is_closed. let shut = does.closed in search arith)

  -- the events of all calls are reached from the file that was opened
  pub Reached-DoAll : (begun : AccountFile S g) → IsReady first begun → (calls : List FileCall) (last : AccountFile S g)
      → DoAll calls begun last → Reached (flat_map events_of calls) (IsLate calls) last
  Reached-DoAll begun ready [] last is = subst (Reached [] (IsLate [])) (sym is) (record {
    names = first;
    has = ready.has;
    run = λ clean. refl;
    left = λ clean db found. let (names, has, same) = ready.left clean db found in (names, has, ([], refl, same));
  })
  Reached-DoAll begun ready (call ∷ older) last (mid, did, does) =
      search (arith, Reached-call, Reached-DoAll begun ready older mid did)

-- ---- runs

-- after any calls a crash leaves a table of the names, which an open finds
pub run-EndsRun : {D : Type 0} (g : disk.Ghosts D) → SeenMayStay g → (last : AccountFile (FileStore D g) over_file) → EndsRun last
run-EndsRun {D} g stay last names first calls before ready did clean may =
    let leaves = (Reached-DoAll {S = FileStore D g} {g = over_file}
    (λ it. settled_at it stay) names first ready calls last did).left clean in
    let listed = λ (db : Trees) (found : over_file.recovers (database_of last) db). (leaves db found).1.1 in (
      λ opens left after next holds.
          ∥∥₁_map (next_open-recovers {g = g} (database_of last) listed before may opens left after next holds) (λ found.
          let (left_names, held, late) = leaves found.0 found.1 in
          (late.0, late.1, rw (rows_of-injective left_names next (sym held.0 ∙ found.2.0)) at late.2)),
      ∥∥₁_map (IsTableOf-crash {g = g} (database_of last) listed before may) (λ (db, can, table).
          let (left_names, held, late) = leaves db can in (left_names, subst (IsTableOf before) held.0 table, late)),
    )

-- the names after runs are what the events of all runs made of the first names
pub runs-AreMade : (first : Texts) (runs : List FileRun) (names : Texts) → IsFoundAfter first runs names
    → ∥ ((events : List FileEvent) × AreEventsOf runs events × AreMade first events names) ∥₁
runs-AreMade first [] names is = ∣ ([], refl, is) ∣₁
runs-AreMade first (run ∷ older) names (earlier, leaves, (opens, left, after, holds)) =
    ∥∥₁_elim (runs-AreMade first older run.found earlier) squash₁ (λ before.
    ∥∥₁_map (leaves opens left after names holds) (λ now.
    let made = AreMade-then first run.found names (now.0 ++ flat_map events_of run.calls) before.0 before.2 now.2 in
    (_, (now.0, before.0, now.1, before.1, refl), rw append_assoc at made)))
