-- Runs of programs on a file of accounts. Each run opens what the run before it left.
use Rattle.std.specs.Prelude.{◌≡◌, ◌⊎◌, ℕ, List, [], ◌∷◌, ◌++◌, false, if◌then◌else◌, Option, Some, None, Result, Ok, Err}
use Rattle.std.specs.FinMap.{empty, get}
use Rattle.sqlite_disk.specs.declared.Disk as disk
use Rattle.sqlite_store.specs.FileStore.{IsStep, NamesFault, blamed, faults, is_shielded, recovers, state, view}
use Rattle.sqlite_store.specs.declared.store.FileStore.{FileStore}
use Rattle.argon2_rows.specs.Names.{Texts}
use Rattle.argon2_rows.specs.Table.{IsHonest, Ghosts}
use Rattle.argon2_store.specs.AccountFile.{Answers, IsReady, NamesStay, Serves, database_of, AccountFile}
use Rattle.argon2_store.specs.Edits.{NamedEdit, left_by}
use Rattle.argon2_store.specs.Errors.{is_refusal, FileError, Closed}
use Rattle.argon2_store.specs.Opening.{HoldsNames, IsAfterOpens, IsTableOf, Image}
use Rattle.argon2_rows.specs.Lines.{flat_map}
use Rattle.argon2_rows.specs.Rows.{rows_of}

-- A call with its result. After a crash the disk does nothing more, so a call that the crash cuts off is recorded with the error
-- that it would have returned.
pub data FileCall : Type 0 where
  makes : List NamedEdit → Result (Unit {0}) FileError → FileCall
  reads : Option FileError → FileCall  -- a call that changes no name, with its error if it failed

-- ---- the events of calls, the newest first

-- edits, with a result that depends only on the names
abbrev pub FileEvent : Type 0
FileEvent = List NamedEdit × Result (Unit {0}) FileError

abbrev pub events_of : FileCall → List FileEvent
events_of (makes edits (Ok _)) = (edits, Ok tt) ∷ []
events_of (makes edits (Err e)) = if is_refusal e then (edits, Err e) ∷ [] else []
events_of (reads error) = []

-- events turn the names `first` into the names `last`
abbrev pub AreMade : Texts → List FileEvent → Texts → Type 0
AreMade first [] last = last ≡ first
AreMade first (event ∷ older) last = (before : Texts) × AreMade first older before × Answers before event.0 event.1 last

-- What comes late of a call: if it had an error of the file, its edits may be in the file all the same, as if it had succeeded.
abbrev pub IsLateOf : FileCall → List FileEvent → Type 0
IsLateOf (makes edits (Err e)) late = (is_refusal e ≡ false) × (late ≡ (edits, Ok tt) ∷ [])
IsLateOf _ late = ⊥

-- the call was refused because the file was closed
abbrev pub IsShutOut : FileCall → Type 0
IsShutOut (makes edits result) = result ≡ Err Closed
IsShutOut (reads error) = error ≡ Some Closed

-- what comes late of calls, the newest first: nothing, or the last call that was not shut out
abbrev pub IsLate : List FileCall → List FileEvent → Type 0
IsLate [] late = late ≡ []
IsLate (call ∷ older) late = (late ≡ []) ⊎ (IsLateOf call late ⊎ (IsShutOut call × IsLate older late))

-- the text of a name after events, if it had none before
abbrev pub text_by : List ℕ → List FileEvent → Option (List ℕ)
text_by name [] = None
text_by name ((edits, Ok _) ∷ older) = left_by name edits (text_by name older)
text_by name ((edits, Err e) ∷ older) = text_by name older

-- ---- one run

module _ {S : Type 0} {g : Ghosts S} where
  -- what a call did to a file, by its contract
  abbrev pub Does : FileCall → AccountFile S g → AccountFile S g → Type 0
  Does (makes edits result) old new = Serves edits result old new
  Does (reads error) old new = NamesStay error old new

  -- calls, the newest first, took the old file to the new one
  abbrev pub DoAll : List FileCall → AccountFile S g → AccountFile S g → Type 0
  DoAll [] old new = new ≡ old
  DoAll (call ∷ older) old new = (mid : AccountFile S g) × DoAll older old mid × Does call mid new

-- a run: the names that its open found, its calls, the newest first, and what it left of the two files
pub record FileRun : Type 0 where
  pub found : Texts
  pub calls : List FileCall
  pub left : Image

-- the names as the calls of a run made them, with what came late
abbrev pub AreLeft : FileRun → Texts → Type 0
AreLeft run names = (late : List FileEvent) × IsLate run.calls late
    × AreMade run.found (late ++ flat_map events_of run.calls) names

-- An open after the run, perhaps after other opens that fail, finds the names as the calls made them, perhaps with what came
-- late.
abbrev pub IsFound : FileRun → Type 0
IsFound run = (opens : List Image) (left : Image) → IsAfterOpens opens run.left left
    → (names : Texts) → HoldsNames left names → ∥ AreLeft run names ∥₁

-- the files have the table of such names, so an open can find them
abbrev pub HasLeft : FileRun → Type 0
HasLeft run = ∥ ((names : Texts) × IsTableOf run.left (rows_of names) × AreLeft run names) ∥₁

-- an account file over the kit's `FileStore`
abbrev pub over_file : {D : Type 0} {g : disk.Ghosts D} → Ghosts (FileStore D g)
over_file = record {
  view = view;
  faults = faults;
  recovers = recovers;
  is_shielded = is_shielded;
  is_step = IsStep;
  blamed = blamed;
  names = NamesFault;
}

-- Whatever calls led to the file, a crash at this moment leaves a table of names, which an open finds.
abbrev pub EndsRun : {D : Type 0} {g : disk.Ghosts D} → AccountFile (FileStore D g) over_file → Type 0
EndsRun last = (names : Texts) (first : AccountFile _ over_file) (calls : List FileCall) (left : Image) →
    IsReady names first → DoAll calls first last → IsHonest over_file (database_of last)
    → (state (database_of last)).may_leave left → let run : FileRun = record { found = names; calls = calls; left = left } in
    IsFound run × HasLeft run

-- ---- runs

-- An open finds `names` after a list of runs, the newest first. Each run found what the run before it left, perhaps after opens
-- that failed, and the oldest run found `first`.
abbrev pub IsFoundAfter : Texts → List FileRun → Texts → Type 0
IsFoundAfter first [] names = names ≡ first
IsFoundAfter first (run ∷ older) names =
    IsFoundAfter first older run.found × IsFound run
    × ((opens : List Image) × (left : Image) × IsAfterOpens opens run.left left × HoldsNames left names)

-- the events of all runs, with what came late of each run
abbrev pub AreEventsOf : List FileRun → List FileEvent → Type 0
AreEventsOf [] events = events ≡ []
AreEventsOf (run ∷ older) events = (late earlier : List FileEvent) × IsLate run.calls late × AreEventsOf older earlier
    × (events ≡ late ++ (flat_map events_of run.calls ++ earlier))

-- The names that an open finds after runs are what the events of the runs made of the first names.
abbrev pub NamesAreRun : Type 0
NamesAreRun = (first : Texts) (runs : List FileRun) (names : Texts) → IsFoundAfter first runs names
    → ∥ ((events : List FileEvent) × AreEventsOf runs events × AreMade first events names) ∥₁

-- If the first run found no names, each name has the text that its accepted edits left, in their order, or no text.
abbrev pub TextsAreKept : Type 0
TextsAreKept = (runs : List FileRun) (names : Texts) → IsFoundAfter empty runs names
    → ∥ ((events : List FileEvent) × AreEventsOf runs events
    × ((name : List ℕ) → get names name ≡ text_by name events)) ∥₁
