-- What calls on accounts do to the names of their file. The file passes on the words that their contracts share.
use Rattle.std.specs.Prelude.{◌≡◌, ◌⊎◌, ℕ, ◌<◌, List, Option, Some, None, MatchOption, Result, Ok, Err, IsTrue, length}
pub use Rattle.std.specs.Result.{result_map_both}
pub use Rattle.argon2_base.specs.PhcText.{Phc, phc_text}
pub use Rattle.argon2_base.specs.declared.phc.hash.PasswordHash.{PasswordHash}
pub use Rattle.argon2.specs.declared.login.answers.Accepted.{Accepted}
pub use Rattle.argon2_policy.specs.Policy.{AdmitsStored, IsChangeRefusal, Denies, Error, IsHashingRefusal, IsFresh, Kept, LogsIn, PolicyValue, Rehashed, SaysValue, Stream, TargetValue, accepted_of, after_salt, drawn_salt, max_len, phc_of, policy_value, stream_after, text_of}
pub use Rattle.argon2_rows.specs.Names.{Texts, changed, get}
pub use Rattle.argon2_rows.specs.Table.{Ghosts, IsHonest}
pub use Rattle.argon2_store.specs.AccountFile.{EditsText, HasNames, IsClosed, NamesStay, Serves, database_of}
pub use Rattle.argon2_store.specs.Edits.{EditValue, adding, replacing, setting}
pub use Rattle.argon2_store.specs.declared.account_file.AccountFile.{AccountFile}
pub use Rattle.argon2_accounts.specs.Errors.{AccountError, Denial, FileError, Refused, is_account_refusal, of_denial, of_file}

-- the text of the name accepts the password within the bound
abbrev pub AdmitsName : PolicyValue → Texts → List ℕ → List ℕ → Type 0
AdmitsName policy names name password = AdmitsStored policy password (get names name)

-- the policy refuses the password by what is stored, and its reason becomes this error
abbrev pub IsDenied : PolicyValue → List ℕ → Option (List ℕ) → AccountError → Type 0
IsDenied policy password stored e = (why : Denial) × Denies policy password stored why × (e ≡ of_denial why)

-- the names after a login that leaves the value `w`: the text of `w` is written if and only if it is fresh
abbrev pub Renews : List ℕ → Accepted → Phc → Texts → Texts → Type 0
Renews name Rehashed w before after = after ≡ changed before name (Some (phc_text w))
Renews name did w before after = after ≡ before

-- the result is the answer of the file
abbrev pub TellsOf : Result (Unit {0}) AccountError → Result (Unit {0}) FileError → Type 0
TellsOf result done = result ≡ result_map_both (λ x. x) of_file done

-- the same for a login: it is accepted even if the fresh text could not be written
abbrev pub TellsOfRenewal : Result Accepted AccountError → Result (Unit {0}) FileError → Type 0
TellsOfRenewal result (Ok _) = result ≡ Ok Rehashed
TellsOfRenewal result (Err e) = (result ≡ Ok Kept) ⊎ (result ≡ Err (of_file e))

module _ {S : Type 0} {g : Ghosts S} where
  -- A fresh text of the password is made, and the file makes this edit of the name with it. If no text is made, the file is not
  -- asked.
  abbrev pub Stores : List ℕ → (List ℕ → EditValue) → TargetValue → List ℕ → List ℕ → Result (Unit {0}) AccountError
      → AccountFile S g → AccountFile S g → Type 0
  Stores name edit target password drawn result old new =
      ((why : Error) × IsHashingRefusal password why × (result ≡ Err (of_denial (Refused why))) × (new ≡ old))
      ⊎ ((fresh : PasswordHash) × (done : Result (Unit {0}) FileError) × IsFresh target password drawn (phc_of fresh)
      × TellsOf result done × EditsText name (edit (text_of fresh)) done old new)

  -- A call that changes no name. If the file can't be read, the result has the error of the file. Any other error is a denial.
  abbrev pub OnlyReads : {X : Type 0} → Result X AccountError → AccountFile S g → AccountFile S g → Type 0
  OnlyReads (Ok x) old new = NamesStay None old new
  OnlyReads (Err why) old new = (error : Option FileError) × NamesStay error old new
      × MatchOption error ((denial : Denial) × (why ≡ of_denial denial)) (λ e. why ≡ of_file e)

  -- The text of the name is read. Perhaps a call then replaces it with a fresh text of the password, and `Tells` relates the
  -- result to the answer of that call.
  abbrev pub Replaces : {X : Type 0} → (Result X AccountError → Result (Unit {0}) FileError → Type 0) → TargetValue → List ℕ
      → List ℕ → List ℕ → Result X AccountError → AccountFile S g → AccountFile S g → Type 0
  Replaces Tells target name password drawn result old new = OnlyReads result old new
      ⊎ ((mid : AccountFile S g) × (text : List ℕ) × (fresh : PasswordHash) × (done : Result (Unit {0}) FileError)
      × NamesStay None old mid × IsFresh target password drawn (phc_of fresh)
      × EditsText name (replacing text (text_of fresh)) done mid new × Tells result done)

  -- `P` relates the names before and after a call, unless the disk gave a wrong answer that was taken as true
  abbrev pub RelatesNames : (Texts → Texts → Type 0) → AccountFile S g → AccountFile S g → Type 0
  RelatesNames P old new = (before : Texts) → HasNames old before
      → (after : Texts) × HasNames new after × (IsHonest g (database_of new) → P before after)

-- the result of registering a name or setting its password, and the names after it
abbrev pub GivesPassword : {X : Type 0} → PolicyValue → List ℕ → List ℕ → Result X AccountError → Texts → Texts → Type 0
GivesPassword policy name password (Ok _) before after = AdmitsName policy after name password
GivesPassword policy name password (Err e) before after = after ≡ before

-- the result of a login, which says what it did with the text of the name, and the names after it
abbrev pub LogsNameIn : PolicyValue → List ℕ → List ℕ → List ℕ → Result Accepted AccountError → Texts → Texts → Type 0
LogsNameIn policy name password drawn (Ok did) before after = AdmitsName policy before name password
    × AdmitsName policy after name password × ((v w : Phc) × SaysValue (get before name) v
    × LogsIn policy password drawn v did w × Renews name did w before after)
LogsNameIn policy name password drawn (Err e) before after = (after ≡ before)
    × (IsTrue (is_account_refusal e) → IsDenied policy password (get before name) e)

-- the result of a change of a password, after which the name has a fresh text; a refusal of the old password draws nothing
abbrev pub ChangesName : {X : Type 0} → PolicyValue → List ℕ → List ℕ → List ℕ → Stream → Stream → Result X AccountError
    → Texts → Texts → Type 0
ChangesName policy name old password rng left (Ok _) before after = AdmitsName policy before name old
    × AdmitsName policy after name password × ((fresh : Phc) × IsFresh policy.target password (drawn_salt rng) fresh
    × (after ≡ changed before name (Some (phc_text fresh))))
ChangesName policy name old password rng left (Err e) before after = (after ≡ before)
    × (IsTrue (is_account_refusal e) → (IsDenied policy old (get before name) e × (left ≡ rng))
    ⊎ (AdmitsName policy before name old × (max_len < length password)))

-- What the generator has left after a login: 16 bytes are drawn for a fresh text, and else nothing is. An error comes before
-- the text is made, or after it.
abbrev pub DrawsForLogin : Result Accepted AccountError → Stream → Stream → Type 0
DrawsForLogin (Ok did) before after = after ≡ stream_after {E = AccountError} (Ok did) before
DrawsForLogin (Err e) before after = (after ≡ before) ⊎ (after ≡ after_salt before)
