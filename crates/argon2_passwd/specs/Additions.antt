-- How an import adds the lines of its input to a file.
use Rattle.std.specs.Prelude.{◌≡◌, ◌≢◌, ◌⊎◌, ℕ, Bool, ◌+◌, List, [], Option, None, IfSome, Result, Ok, Err, if◌then◌else◌, unwrap_or}
use Rattle.sqlite_trees.specs.declared.store.Store.{Ghosts}
use Rattle.argon2_rows.specs.Names.{IsFirstTaken, Texts}
use Rattle.argon2_rows.specs.Table.{IsHonest}
use Rattle.argon2_store.specs.AccountFile.{HasNames, NamesStay, Serves, database_of}
use Rattle.argon2_store.specs.Edits.{additions}
use Rattle.argon2_store.specs.declared.account_file.AccountFile.{AccountFile}
use Rattle.argon2_store.specs.declared.error.FileError.TheVariants.{Damaged, NameTaken, OutOfMemory}
use Rattle.argon2_passwd.specs.Failures.{Failure, FileError, is_refusal, file_failure, status_of, Line as AtLine, Passed, Outcome}
use Rattle.argon2_passwd.specs.Lines.{AreSaid, Flaw, LineValue, entries_in, flaws_from, has_text, new_lines, Taken}
use Rattle.argon2_passwd.specs.Texts.{Known}

-- `P` holds of what the lines of the input say, if the input is known
abbrev pub ReadsLines : Bool → Known → (List LineValue → Type 0) → Type 0
ReadsLines any_text input P = (said : List LineValue) × IfSome input (λ bytes. AreSaid any_text bytes said) × P said

module _ {S : Type 0} {g : Ghosts S} where
  -- Why the entries are not added. If a name is taken, the failure has the number of the line of the first such entry.
  abbrev pub FailsToAdd : FileError → List (List ℕ × List ℕ) → Failure → AccountFile S g → AccountFile S g → Type 0
  FailsToAdd NameTaken es failure before after = (names : Texts) → HasNames before names → IsHonest g (database_of after)
      → (k : ℕ) × (failure ≡ AtLine (k + 1) Taken) × IsFirstTaken names es k
  FailsToAdd e es failure before after = failure ≡ file_failure e

  -- the call that adds the entries adds all of them, or none
  abbrev pub AddsLines : Outcome → List (List ℕ × List ℕ) → AccountFile S g → AccountFile S g → Type 0
  AddsLines (Ok _) es before after = Serves (additions es) (Ok tt) before after
  AddsLines (Err failure) es before after =
      (e : FileError) × Serves (additions es) (Err e) before after × FailsToAdd e es failure before after

  -- names were looked up, which changes none, until one look-up failed with `error` or all were done
  abbrev pub Looks : Option FileError → AccountFile S g → AccountFile S g → Type 0
  Looks error before after = ((error ≡ None) × (after ≡ before)) ⊎ NamesStay error before after

  -- `import --skip` looked up all names, and then made one call to add the lines whose name is new both to the file and to the
  -- input. `answer` is the answer of the call, and `passed` has the other lines, by number, each with its flaw.
  abbrev pub AddsEntries : Result (Unit {0}) FileError → List LineValue → List (ℕ × Flaw) → AccountFile S g → AccountFile S g
      → Type 0
  AddsEntries answer ls passed before after = (mid : AccountFile S g) × (new : List LineValue)
      × Looks None before mid × Serves (additions (entries_in new)) answer mid after × (passed ≡ flaws_from 1 new)
      × ((names : Texts) → HasNames before names → IsHonest g (database_of after)
      → new ≡ new_lines (has_text names) ls)

  -- the entries were added, and at least one line was passed over: the failure has the numbers of these lines
  abbrev pub PassesOver : Failure → List LineValue → AccountFile S g → AccountFile S g → Type 0
  PassesOver (Passed passed) ls before after = (passed.items ≢ []) × AddsEntries (Ok tt) ls passed.items before after
  PassesOver _ ls before after = ⊥

  -- names were looked up until a look-up failed, or memory ran out
  abbrev pub FailsToLook : Failure → AccountFile S g → AccountFile S g → Type 0
  FailsToLook failure before after =
      (error : Option FileError) × Looks error before after × (failure ≡ file_failure (unwrap_or error OutOfMemory))

  -- How `import --skip` ended. With status 3 a look-up failed, or the call that adds the entries did. If that call finds a name
  -- taken, although it was looked up before, the file is damaged.
  abbrev pub AddsOthers : Outcome → List LineValue → AccountFile S g → AccountFile S g → Type 0
  AddsOthers (Ok _) ls before after = AddsEntries (Ok tt) ls [] before after
  AddsOthers (Err failure) ls before after = PassesOver failure ls before after ⊎ ((status_of failure ≡ 3)
      × (FailsToLook failure before after
      ⊎ ((e : FileError) × (passed : List (ℕ × Flaw)) × AddsEntries (Err e) ls passed before after
      × (failure ≡ file_failure (if is_refusal e then Damaged else e)))))
