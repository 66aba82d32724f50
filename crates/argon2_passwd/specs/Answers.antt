-- What the program answers. The file passes on the words that the contracts share with it.
use Rattle.std.specs.Prelude.{◌≡◌, ◌≢◌, ◌⊎◌, ℕ, false, List, [], ◌∷◌, ◌++◌, Option, Some, None, Result, Ok, Err, IsErrAnd, if◌then◌else◌, IsSomeAnd, take}
pub use Rattle.std.specs.Option.{option_map}
pub use Rattle.std.specs.Io.KnownBytes.{Appends, Keeps}
pub use Rattle.argon2_base.specs.PhcFields.{phc_of}
use Rattle.argon2_base.specs.PhcText.{phc_text}
pub use Rattle.argon2.specs.TextHashing.{after_salt, drawn_salt, IsFresh}
pub use Rattle.sqlite_trees.specs.declared.store.Store.{Ghosts}
use Rattle.argon2.specs.Login.{accepted_text}
use Rattle.argon2.specs.declared.login.answers.Accepted.{Accepted}
use Rattle.argon2.specs.declared.login.answers.Accepted.TheVariants.{Kept, Rehashed}
pub use Rattle.argon2_policy.specs.Policy.{AdmitsStored, Denies, IsPolicy, LogsIn, IsMakingRefusal, PolicyValue, SaysValue, accepted_of, fresh_of, policy_value, value_after}
pub use Rattle.argon2_io.specs.Lines.{AppendsPrefix}
pub use Rattle.argon2_rows.specs.Names.{IsFirstTaken, Texts, entry_of, get}
pub use Rattle.argon2_rows.specs.Table.{IsHonest}
pub use Rattle.argon2_store.specs.AccountFile.{HasNames, IsReady, NamesStay, Serves, Stays, WritesLines, error_of, database_of}
use Rattle.argon2_store.specs.Edits.{adding, locking, removing, replacing, setting, unlocking}
pub use Rattle.argon2_store.specs.Edits.{additions, edit_value}
use Rattle.argon2_store.specs.Errors.{read_by}
pub use Rattle.argon2_store.specs.declared.account_file.AccountFile.{AccountFile}
pub use Rattle.argon2_store.specs.declared.error.FileError.TheVariants.{Damaged, NameTaken, OutOfMemory}
pub use Rattle.argon2_passwd.specs.Options.{policy_by}
use Rattle.argon2_passwd.specs.declared.command.Action.{Action}
use Rattle.argon2_passwd.specs.declared.command.Action.TheVariants.{Hash, Check, OnFile}
use Rattle.argon2_passwd.specs.declared.command.Task.TheVariants.{Verify, Edit as Edits, Show, Import, ImportOthers, CheckFile}
use Rattle.argon2_passwd.specs.declared.options.Options.{Options}
use Rattle.argon2_passwd.specs.declared.command.EditTask.{EditTask}
use Rattle.argon2_passwd.specs.declared.command.EditTask.TheVariants.{Register, Change, Set, Remove, Lock, Unlock}
pub use Rattle.argon2_passwd.specs.Passwords.{IsNotNew, IsUnread, password_of}
pub use Rattle.argon2_passwd.specs.Salts.{IsSalt, next_salt}
pub use Rattle.argon2_passwd.specs.Failures.{Denial, denial_line, Failure, FileError, IsDenialOf, IsOfWrite, LineError, Params, is_denial, is_refusal, denial_failure, file_failure, lines_failure, status_by, status_of, Outcome, outcome_by}
use Rattle.argon2_passwd.specs.Failures.{Name}
pub use Rattle.argon2_passwd.specs.Lines.{AreSaid, Bor, Flaw, ReportsFirst, LineValue, Phc, IsPhcText, entries_in, entry_or_flaw, flaws_from, has_name, has_text, line_has_name, new_line, new_lines, scheme_of}
use Rattle.argon2_passwd.specs.Lines.{name_flaw}
use Rattle.argon2_passwd.specs.declared.outside.News.{News}
pub use Rattle.argon2_passwd.specs.News.{news_of, news_text}
pub use Rattle.argon2_passwd.specs.Texts.{Known, ReadsPassword, after_line, IsNewText, login_text, IsDenied, RefusesChange, IsSecret}
pub use Rattle.argon2_passwd.specs.Additions.{ReadsLines, FailsToAdd, AddsLines, Looks, AddsEntries, PassesOver, FailsToLook, AddsOthers}
pub use Rattle.argon2_passwd.specs.Files.{FileUse, IsOpened, IsOpenFor, OpensOnce, EditsOnce, ReadsText, FailsToRead, FailsOnName}

-- the answer of an accepted login if the fresh text could not be written
abbrev pub answer_without_text : Accepted → Accepted
answer_without_text Rehashed = Kept
answer_without_text did = did

-- The answer of an accepted login, given the result of writing its fresh text. The login is refused if the name was removed or
-- locked meanwhile.
abbrev pub login_by : Accepted → Outcome → Result Accepted Failure
login_by did (Ok _) = Ok did
login_by did (Err failure) = if is_denial failure then Err failure else Ok (answer_without_text did)

-- the line was written, or a prefix of the line if a write failed
abbrev pub WritesLine : List ℕ → Outcome → Known → Known → Type 0
WritesLine line (Ok _) old new = Appends old new line
WritesLine line (Err failure) old new = IsOfWrite failure × AppendsPrefix old new line

-- an accepted login prints what it did with the text, and a refused login prints nothing
abbrev pub WritesLogin : Result Accepted Failure → Outcome → Known → Known → Type 0
WritesLogin (Ok did) result old new = WritesLine (accepted_text did ++ 10 ∷ []) result old new
WritesLogin (Err why) result old new = (result ≡ Err why) × Keeps old new

-- either the call was made, and its result satisfies `Made`, or the file could not be opened (status 3)
abbrev pub EndsOrFailsToOpen : {X : Type 0} → (Result X Failure → Type 0) → Type 0 → Result X Failure → Type 0
EndsOrFailsToOpen Made untouched result = Made result ⊎ (untouched × IsErrAnd result (λ failure. status_of failure ≡ 3))

-- before a file is opened, the words or the input are refused with this failure
abbrev pub IsUnfit : PolicyValue → Action → Known → Failure → Type 0
IsUnfit policy Hash input failure = IsNotNew input failure
IsUnfit policy (Check text) input failure = IsUnread input failure
    ⊎ ReadsPassword (λ password. IsDenied (Denies policy password) (Some text.now) failure) input
IsUnfit policy (OnFile path (Verify name)) input failure = IsUnread input failure
IsUnfit policy (OnFile path (Edits Register name)) input failure =
    IsSomeAnd (name_flaw name.now) (λ why. failure ≡ Name why) ⊎ ((name_flaw name.now ≡ None) × IsNotNew input failure)
IsUnfit policy (OnFile path (Edits Change name)) input failure =
    IsUnread input failure ⊎ ReadsPassword (λ first. IsNotNew (after_line input) failure) input
IsUnfit policy (OnFile path (Edits Set name)) input failure = IsNotNew input failure
IsUnfit policy (OnFile path (Import any_text)) input failure =
    ReadsLines any_text input (λ said. ReportsFirst (flaws_from 1 said) failure)
IsUnfit policy _ input failure = ⊥

-- `P` holds of the line that a command which opens no file prints
abbrev pub HasReply : (List ℕ → Type 0) → PolicyValue → Action → Known → (List ℕ → Type 0) → Type 0
HasReply Gives policy Hash input P = (v : Phc) × IsNewText Gives policy input v × P (phc_text v ++ 10 ∷ [])
HasReply Gives policy (Check text) input P = ReadsPassword (λ password.
    (drawn : List ℕ) × (v : Phc) × (did : Accepted) × (w : Phc) × IsSalt Gives drawn × SaysValue (Some text.now) v
    × LogsIn policy password drawn v did w × P (login_text did w ++ 10 ∷ [])) input
HasReply Gives policy _ input P = ⊥

-- a command that opens no file either prints its answer, or is refused or fails and prints nothing
abbrev pub UsesNoFile : (List ℕ → Type 0) → PolicyValue → Action → Outcome → Known → Known → Known → Type 0
UsesNoFile Gives policy what result input old new = HasReply Gives policy what input (λ line. WritesLine line result old new)
    ⊎ (Keeps old new × IsErrAnd result (λ failure. (status_of failure ≡ 3) ⊎ IsUnfit policy what input failure))

module _ {S : Type 0} (g : Ghosts S) where
  -- How an accepted login ended after its text was read: the text stays, or a call to replace it had this outcome.
  abbrev pub EndsLogin : List ℕ → List ℕ → List ℕ → Phc → Accepted → Result Accepted Failure → (List (FileUse S) → Type 0)
      → FileUse S → Type 0
  EndsLogin path name old w did result Closed read = ((result ≡ Ok (answer_without_text did)) × Closed (read ∷ []))
      ⊎ ((done : Outcome) × (result ≡ login_by did done)
      × EditsOnce g path name (replacing old (phc_text w)) (λ more. Closed (read ∷ more)) done)

module _ {S : Type 0} (g : Ghosts S) (Gives : List ℕ → Type 0) where
  -- A login that the text of a name accepts: `old` is the text, `value` what it says, `drawn` the salt of a fresh text, and
  -- `next` what the text says once the fresh one is stored.
  pub record IsAcceptedLogin (policy : PolicyValue) (path name password : List ℕ) (result : Result Accepted Failure)
      (Closed : List (FileUse S) → Type 0) : Type 0 where
    pub old : List ℕ
    pub drawn : List ℕ
    pub value : Phc
    pub next : Phc
    pub did : Accepted
    pub salt : IsSalt Gives drawn
    pub says : SaysValue (Some old) value
    pub logs_in : LogsIn policy password drawn value did next
    pub read : ReadsText g path name (Ok (Some old)) (EndsLogin g path name old next did result Closed)

  -- The only thing done with the file at a path was one login with the password, which gave `result`.
  abbrev pub IsLogin : PolicyValue → List ℕ → List ℕ → List ℕ → Result Accepted Failure → (List (FileUse S) → Type 0) → Type 0
  IsLogin policy path name password result Closed =
      IsErrAnd result (FailsOnName g (Denies policy password) path name Closed)
      ⊎ IsAcceptedLogin policy path name password result Closed

  -- The only thing done with the file at a path was one change of the text of a name, by the passwords of the input. `change`
  -- reads the text first. If the file can't be opened again to replace the text, the status is 3.
  abbrev pub IsChange : PolicyValue → List ℕ → EditTask → List ℕ → Known → (List (FileUse S) → Type 0) → Outcome → Type 0
  IsChange policy path Register name input Closed result = (name_flaw name ≡ None)
      × (v : Phc) × IsNewText Gives policy input v × EditsOnce g path name (adding (phc_text v)) Closed result
  IsChange policy path Change name input Closed result = ReadsPassword (λ first. ReadsPassword (λ second. (second ≢ []) × (
      IsErrAnd result (FailsOnName g (RefusesChange policy first second) path name Closed)
      ⊎ ((old drawn : List ℕ) × (w : Phc) × IsSalt Gives drawn × AdmitsStored policy first (Some old)
      × IsFresh policy.target second drawn w × ReadsText g path name (Ok (Some old))
      (λ read. EndsOrFailsToOpen (EditsOnce g path name (replacing old (phc_text w)) (λ more. Closed (read ∷ more)))
      (Closed (read ∷ [])) result)))) (after_line input)) input
  IsChange policy path Set name input Closed result =
      (v : Phc) × IsNewText Gives policy input v × EditsOnce g path name (setting (phc_text v)) Closed result
  IsChange policy path Remove name input Closed result = EditsOnce g path name removing Closed result
  IsChange policy path Lock name input Closed result = EditsOnce g path name locking Closed result
  IsChange policy path Unlock name input Closed result = EditsOnce g path name unlocking Closed result

  -- what an action did with its file, which was all that was done with files
  abbrev pub UsesFile : PolicyValue → Action → Outcome → Known → Known → Known → (List (FileUse S) → Type 0) → Type 0
  UsesFile policy (OnFile path (Verify name)) result input old new Closed =
      (login : Result Accepted Failure) × WritesLogin login result old new
      × ReadsPassword (λ password. IsLogin policy path.now name.now password login Closed) input
  UsesFile policy (OnFile path (Edits act name)) result input old new Closed =
      Keeps old new × IsChange policy path.now act name.now input Closed result
  UsesFile policy (OnFile path (Show view)) result input old new Closed =
      (done : Result (Unit {0}) LineError) × (result ≡ outcome_by lines_failure done)
      × OpensOnce g path.now (λ before after. (names : Texts) → HasNames before names
      → Stays (error_of (read_by done)) names before after
      × (IsHonest g (database_of after) → WritesLines view names old new done)) Closed
  UsesFile policy (OnFile path (Import any_text)) result input old new Closed =
      Keeps old new × ReadsLines any_text input (λ said.
      (flaws_from 1 said ≡ []) × OpensOnce g path.now (AddsLines result (entries_in said)) Closed)
  UsesFile policy (OnFile path (ImportOthers any_text)) result input old new Closed =
      Keeps old new × ReadsLines any_text input (λ said.
      OpensOnce g path.now (AddsOthers result said) Closed)
  UsesFile policy (OnFile path CheckFile) result input old new Closed =
      Keeps old new × (result ≡ Ok tt) × OpensOnce g path.now (λ before after. after ≡ before) Closed
  UsesFile policy _ result input old new Closed = ⊥

  -- an action either used its file once or opened no file
  abbrev pub EndsAction : PolicyValue → Action → Outcome → Known → Known → Known → (List (FileUse S) → Type 0) → Type 0
  EndsAction policy what result input old new Closed = UsesFile policy what result input old new Closed
      ⊎ (Closed [] × UsesNoFile Gives policy what result input old new)

  -- How a command ended: it failed with status 3 before it had a policy, its parameters are above the bound, or its action ended
  -- under the policy that the options and the secrets make.
  abbrev pub EndsCommand : (List ℕ → List ℕ → Type 0) → Options → Action → Outcome → Known → Known → Known
      → (List (FileUse S) → Type 0) → Type 0
  EndsCommand Holds options what result input old new Closed =
      (Closed [] × IsErrAnd result (λ failure. status_of failure ≡ 3) × Keeps old new)
      ⊎ ((secret prior : Option (List ℕ)) × IsSecret Holds options.secret_file secret
      × IsSecret Holds options.old_secret_file prior
      × ((Closed [] × ¬ (IsPolicy (policy_by options secret prior)) × IsErrAnd result (λ failure. failure ≡ Params)
      × Keeps old new)
      ⊎ EndsAction (policy_by options secret prior) what result input old new Closed))

-- What standard error gets: a prefix of the news of the file. A refusal that hides whether the name exists then adds a prefix of
-- one line, which is the same for each such refusal.
abbrev pub WritesErrors : Options → Action → News → Outcome → Known → Known → Type 0
WritesErrors options what news (Ok _) old new = (n : ℕ) × Appends old new (take n (news_of what news))
WritesErrors options what news (Err failure) old new = options.explain ≡ false → IsDenialOf what failure
    → (mid : Known) × (n : ℕ) × Appends old mid (take n (news_of what news)) × AppendsPrefix mid new denial_line
