-- What callers see of a file of accounts, and what each call does.
use Rattle.std.specs.Prelude.{◌≡◌, ◌⊎◌, ℕ, List, [], ◌∷◌, false, Any, Option, Some, None, IfSome, Result, Ok, Err, IfErr, IsErrAnd, IsTrue, ⊤, length}
use Rattle.sqlite_trees.specs.declared.error.StoreError.TheVariants as below
use Rattle.argon2_rows.specs.Names.{IsFirstTaken, Texts}
use Rattle.argon2_rows.specs.Lines.{AreCut, AreWritten}
use Rattle.argon2_rows.specs.Rows.{AreLines}
use Rattle.argon2_rows.specs.Table.{HasFailed, HasRows, IsHonest, IsOpen, TellsFault, CrashLeaves, StaysQuiet, StoreError, Ghosts}
use Rattle.argon2_rows.specs.declared.view.View.{View}
use Rattle.argon2_rows.specs.declared.view.Written.TheVariants as written
use Rattle.argon2_store.specs.Edits.{EditValue, NamedEdit, IsTooLong, names_after}
use Rattle.argon2_store.specs.Errors.{is_refusal, FileError, LineError, Breaks, File, Write, NameTaken, Io, Damaged, Full, TooLong, Closed}
use Rattle.argon2_store.specs.Opening.{HasOtherFormat, HoldsNames, IsDamaged, Image}
pub use Rattle.argon2_store.specs.declared.account_file.AccountFile.{AccountFile}

-- The result of a call that is to make these edits, and the names after the call. An error leaves all names as they were. A
-- refusal is the refusal of the first edit that is refused.
abbrev pub Answers : Texts → List NamedEdit → Result (Unit {0}) FileError → Texts → Type 0
Answers before edits (Ok _) after = names_after edits before ≡ Ok after
Answers before edits (Err e) after = (IsTrue (is_refusal e) → names_after edits before ≡ Err e) × (after ≡ before)

-- the result without the index of its error
abbrev pub unindexed : {X : Type 0} → Result X (ℕ × FileError) → Result X FileError
unindexed (Ok x) = Ok x
unindexed (Err e) = Err e.1

-- The lines of names that were written. After an error of the file a prefix of the lines is written, at most up to the first name
-- that breaks its line.
abbrev pub WritesLines : View → Texts → Option (List ℕ) → Option (List ℕ) → Result (Unit {0}) LineError → Type 0
WritesLines view names old new (Ok x) = AreWritten view names old new written.All
WritesLines view names old new (Err Breaks) = AreWritten view names old new written.Breaks
WritesLines view names old new (Err (Write e)) = AreWritten view names old new (written.Failed e)
WritesLines view names old new (Err (File e)) = AreCut view names old new

-- the error of a result, or None
abbrev pub error_of : {X : Type 0} → Result X FileError → Option FileError
error_of (Ok x) = None
error_of (Err e) = Some e

-- The index of an error of `add_all`: the first name that is taken; 0 if the file is closed; the number of names if they can't be
-- written.
abbrev pub IsErrorAt : Texts → List (List ℕ × List ℕ) → ℕ × FileError → Type 0
IsErrorAt before es (k, NameTaken) = IsFirstTaken before es k
IsErrorAt before es (k, Closed) = k ≡ 0
IsErrorAt before es (k, e) = (k ≡ length es) × (is_refusal e ≡ false)

-- why a call has this error; `fault` says how the disk failed, or refused a call, meanwhile
abbrev pub HasCause : Type 0 → (StoreError → Type 0) → Type 0 → FileError → Type 0
HasCause closed fault too_long Io = fault below.Io
HasCause closed fault too_long Damaged = fault below.Corrupt
HasCause closed fault too_long Full = fault below.Full
HasCause closed fault too_long TooLong = too_long
HasCause closed fault too_long Closed = closed
HasCause closed fault too_long _ = ⊤

module _ {S : Type 0} {g : Ghosts S} where
  -- the store that holds the names
  abbrev pub database_of : AccountFile S g → S
  database_of file = file.store

  -- The names of a file, each with its text. While the file is open, and the disk has given no wrong answer that was taken as
  -- true, they are exactly the names of its rows.
  abbrev pub HasNames : AccountFile S g → Texts → Type 0
  HasNames file names = HasRows g (database_of file) names

  -- the file has to be opened again
  abbrev pub IsClosed : AccountFile S g → Type 0
  IsClosed file = (g.view (database_of file)).is_open ≡ false

  -- The disk failed, or refused a call, between these two states, and the store answered this fault last. `Io` may also mean that
  -- the file has to be opened again.
  abbrev pub HasFailedBy : AccountFile S g → AccountFile S g → StoreError → Type 0
  HasFailedBy old new fault = HasFailed g (database_of old) (database_of new) × TellsFault g (database_of new) fault

  -- A file that was just opened, with these names: it is not closed, and a crash leaves its names.
  pub record IsReady (names : Texts) (file : AccountFile S g) : Type 0 where
    pub has : HasNames file names
    pub is_open : IsHonest g (database_of file) → IsOpen g (database_of file)
    pub left : IsHonest g (database_of file) → CrashLeaves g (database_of file) (λ left. left ≡ names)

  -- A file that was opened from two files: it has the names that these held, each with a text of one line. The rows have the
  -- format that this release knows, and the log was not damaged.
  abbrev pub IsFileFrom : Image → AccountFile S g → Type 0
  IsFileFrom image file =
      (names : Texts) × IsReady names file × AreLines names
      × (IsHonest g (database_of file) → HoldsNames image names)
      × (IsHonest g (database_of file) → ¬ IsDamaged image.log)
      × (IsHonest g (database_of file) → (n : ℕ) → ¬ HasOtherFormat image n)

  -- A call that changes no name, with its error if it failed. The clauses on the file hold while the disk has given no wrong
  -- answer that was taken as true.
  pub record Stays (error : Option FileError) (names : Texts) (old new : AccountFile S g) : Type 0 where
    pub has : HasNames new names
    -- no fault is forgotten, a crash has no new outcome, and only a failure of the disk closes the file
    pub quiet : StaysQuiet g (database_of old) (database_of new)
    -- a crash leaves the names, at any moment of the call and after it
    pub left : IsHonest g (database_of new) → IsOpen g (database_of old) → CrashLeaves g (database_of new) (λ left. left ≡ names)
    -- a closed file stays closed, and as it was
    pub closed : IsHonest g (database_of old) → IsClosed old → (error ≡ Some Closed) × (database_of new ≡ database_of old)
    -- after a success the file is open
    pub is_open : error ≡ None → IsHonest g (database_of new) → IsOpen g (database_of new)
    -- the error is an error of the file, and has its cause
    pub of_file : IfSome error (λ e. is_refusal e ≡ false)
    pub cause : IsHonest g (database_of new) → IfSome error (HasCause (IsClosed old) (HasFailedBy old new) ⊥)

  -- a call that changes no name, whatever names the file has, with its error if it failed
  abbrev pub NamesStay : Option FileError → AccountFile S g → AccountFile S g → Type 0
  NamesStay error old new = (names : Texts) → HasNames old names → Stays error names old new

  -- a call that changes no name, by its result
  abbrev pub Reads : {X : Type 0} → Result X FileError → AccountFile S g → AccountFile S g → Type 0
  Reads result old new = NamesStay (error_of result) old new

  -- A call that makes all of these edits or none. The clauses on the file hold while the disk has given no wrong answer that was
  -- taken as true.
  pub record Makes (edits : List NamedEdit) (result : Result (Unit {0}) FileError) (old new : AccountFile S g)
      (before after : Texts)
      : Type 0 where
    pub has : HasNames new after
    pub answers : IsHonest g (database_of new) → Answers before edits result after
    pub honest : IsHonest g (database_of new) → IsHonest g (database_of old)
    -- a refusal writes nothing: no fault is forgotten, and a crash has no new outcome
    pub refused : IfErr result (λ e. IsTrue (is_refusal e) → StaysQuiet g (database_of old) (database_of new))
    -- A crash at any moment of the call, or after it, leaves the names `after`. If the call has an error of the file, the crash
    -- may leave the names after the edits instead.
    pub crash : IsHonest g (database_of new) → IsOpen g (database_of old) → CrashLeaves g (database_of new) (λ left.
        (left ≡ after) ⊎ (IsErrAnd result (λ e. is_refusal e ≡ false) × (names_after edits before ≡ Ok left)))
    -- a closed file stays closed, and as it was
    pub closed : IsHonest g (database_of old) → IsClosed old → (result ≡ Err Closed) × (database_of new ≡ database_of old)
    -- only a failure of the disk closes the file
    pub closes : IsHonest g (database_of new) → IsOpen g (database_of old) → IsOpen g (database_of new)
        ⊎ HasFailed g (database_of old) (database_of new)
    -- each error has its cause
    pub cause : IsHonest g (database_of new)
        → IfErr result (HasCause (IsClosed old) (HasFailedBy old new) (Any (IsTooLong before) edits))

  -- a call that makes all of these edits or none, whatever names the file has
  abbrev pub Serves : List NamedEdit → Result (Unit {0}) FileError → AccountFile S g → AccountFile S g → Type 0
  Serves edits result old new = (before : Texts) → HasNames old before → (after : Texts) × Makes edits result old new before after

  -- a call that makes this edit of the text of a name
  abbrev pub EditsText : List ℕ → EditValue → Result (Unit {0}) FileError → AccountFile S g → AccountFile S g → Type 0
  EditsText name edit = Serves ((name, edit) ∷ [])
