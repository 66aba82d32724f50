-- How a file with accounts is used.
use Rattle.std.specs.Prelude.{◌≡◌, ◌⊎◌, ℕ, List, [], ◌∷◌, Option, Result, Ok, Err, IfOk}
use Rattle.sqlite_trees.specs.declared.store.Store.{Ghosts}
use Rattle.argon2_rows.specs.Names.{Texts, get}
use Rattle.argon2_rows.specs.Table.{IsHonest}
use Rattle.argon2_store.specs.AccountFile.{EditsText, HasNames, IsReady, Stays, error_of, database_of}
use Rattle.argon2_store.specs.Edits.{EditValue}
use Rattle.argon2_store.specs.declared.account_file.AccountFile.{AccountFile}
use Rattle.argon2_passwd.specs.Failures.{Denial, Failure, FileError, file_failure, Outcome, outcome_by}
use Rattle.argon2_passwd.specs.Texts.{IsDenied}

-- one use of the file at a path: the store when it was opened, and the store when it was closed
pub record FileUse (S : Type 0) : Type 0 where
  pub path : List ℕ
  pub first : S
  pub last : S

module _ {S : Type 0} {g : Ghosts S} where
  -- the file was opened, and has some names
  abbrev pub IsOpened : AccountFile S g → Type 0
  IsOpened file = (names : Texts) × IsReady names file

module _ {S : Type 0} (g : Ghosts S) where
  -- The file at a path was opened, used as `Does` says, and closed. `Next` holds of this use.
  pub record IsOpenFor (path : List ℕ) (Does : AccountFile S g → AccountFile S g → Type 0) (Next : FileUse S → Type 0)
      : Type 0 where
    pub before : AccountFile S g
    pub after : AccountFile S g
    pub opened : IsOpened before
    pub does : Does before after
    pub next : Next (record { path = path; first = database_of before; last = database_of after })

  -- the only thing done with files is one use of the file at a path, as `Does` says
  abbrev pub OpensOnce : List ℕ → (AccountFile S g → AccountFile S g → Type 0) → (List (FileUse S) → Type 0) → Type 0
  OpensOnce path Does Closed = IsOpenFor path Does (λ used. Closed (used ∷ []))

  -- the only thing done with files is one edit in the file at a path, whose answer gives this result
  abbrev pub EditsOnce : List ℕ → List ℕ → EditValue → (List (FileUse S) → Type 0) → Outcome → Type 0
  EditsOnce path name edit Closed result =
      (done : Result (Unit {0}) FileError) × (result ≡ outcome_by file_failure done)
      × OpensOnce path (EditsText name edit done) Closed

  -- The text of a name was looked up in the file at a path, which gave `found`. `Next` holds of this use.
  abbrev pub ReadsText : List ℕ → List ℕ → Result (Option (List ℕ)) FileError → (FileUse S → Type 0) → Type 0
  ReadsText path name found = IsOpenFor path (λ before after. (names : Texts) → HasNames before names
      → Stays (error_of found) names before after
      × IfOk found (λ text. IsHonest g (database_of after) → get names name ≡ text))

  -- the text of a name could not be read, and nothing else was done with files
  abbrev pub FailsToRead : List ℕ → List ℕ → (List (FileUse S) → Type 0) → Failure → Type 0
  FailsToRead path name Closed failure =
      (e : FileError) × (failure ≡ file_failure e) × ReadsText path name (Err e) (λ read. Closed (read ∷ []))

  -- a command on a name is refused: its text could not be read, or the policy refuses the command by what is stored
  abbrev pub FailsOnName : (Option (List ℕ) → Denial → Type 0) → List ℕ → List ℕ → (List (FileUse S) → Type 0) → Failure → Type 0
  FailsOnName Why path name Closed failure =
      ((o : Option (List ℕ)) × IsDenied Why o failure × ReadsText path name (Ok o) (λ read. Closed (read ∷ [])))
      ⊎ FailsToRead path name Closed failure
