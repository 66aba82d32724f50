-- How the answers of a policy and the calls on a file change the names.
pub use Rattle.std.proofs.Common.{[], ap, arith, Err, inl, inr, IsTrue, List, None, Ok, Option, refl, Result, rules, Some, subst, sym, ℕ, ◌∙◌, ◌∷◌, ◌≡◌, ◌⊎◌}
use Rattle.std.proofs.lemmas.Slice.Eq.{bytes_eq-Decides}
use Rattle.argon2_rows.proofs.RowLemmas.{get-changed}
use Rattle.argon2_store.specs.AccountFile.{Answers}
use Rattle.argon2_store.specs.Edits.{gives, names_after}
use Rattle.argon2_store.specs.Errors.{is_refusal}
pub use Rattle.argon2_accounts.specs.Accounts.{Accepted, AccountError, AccountFile, AdmitsName, AdmitsStored, IsChangeRefusal, ChangesName, Denial, Denies, DrawsForLogin, FileError, Ghosts, GivesPassword, HasNames, IsFresh, IsHonest}
pub use Rattle.argon2_accounts.specs.Accounts.{LogsIn, EditValue, LogsNameIn, NamesStay, PasswordHash, Phc, PolicyValue, Rehashed, RelatesNames, SaysValue, EditsText, Stream, TellsOf, TellsOfRenewal, Texts, adding, changed, database_of}
pub use Rattle.argon2_accounts.specs.Accounts.{drawn_salt, get, is_account_refusal, of_denial, of_file, phc_of, policy_value, replacing, setting, stream_after, text_of}
pub use Rattle.argon2_rows.proofs.TableLemmas.{err_is}

-- an accepted edit changes the text of its name to the text that the edit gives, and no other name
accepted_edit_leaves_given : (name : List ℕ) (edit : EditValue) (before after : Texts)
    → names_after ((name, edit) ∷ []) before ≡ Ok after
    → (after ≡ changed before name (gives edit (get before name))) × (get after name ≡ gives edit (get before name))
accepted_edit_leaves_given name edit before after is = grind (arith, get-changed)

-- an error of the file stands for a refusal if and only if the file calls the error a refusal
is_account_refusal-of_file : (e : FileError) → is_account_refusal (of_file e) ≡ is_refusal e
is_account_refusal-of_file e = grind arith

module _ {S : Type 0} {g : Ghosts S} where
  -- a call that only reads leaves the names as they are
  pub read_leaves_names : (P : Texts → Texts → Type 0) {error : Option FileError} {old new : AccountFile S g}
      → NamesStay error old new
      → ((names : Texts) → HasNames new names → IsHonest g (database_of new) → P names names) → RelatesNames P old new
  read_leaves_names P stays holds before has =
      let read = stays before has in (before, read.has, λ honest. holds before read.has honest)

  -- a call that reads the names and makes one edit relates the names before and after it as its edit does
  pub edit_relates_names : (P : Texts → Texts → Type 0) {name : List ℕ} {edit : EditValue} {done : Result (Unit {0}) FileError}
      {error : Option FileError}
      {old mid new : AccountFile S g} → NamesStay error old mid → EditsText name edit done mid new
      → ((before after : Texts) → HasNames mid before → IsHonest g (database_of mid)
      → Answers before ((name, edit) ∷ []) done after → P before after) → RelatesNames P old new
  edit_relates_names P stays serves holds before has =
      let read = stays before has in
      let it = serves before read.has in
      (it.0, it.1.has, λ honest. holds before it.0 read.has (it.1.honest honest) (it.1.answers honest))

  -- a name that gets the text of a password accepts the password
  pub text_gives_password : (policy : PolicyValue) (name : List ℕ) (edit : EditValue) (password : List ℕ) (text : List ℕ)
      → ((o : Option (List ℕ)) → gives edit o ≡ Some text) → AdmitsStored policy password (Some text)
      → (done : Result (Unit {0}) FileError) (result : Result (Unit {0}) AccountError) → TellsOf result done
      → {old new : AccountFile S g} → EditsText name edit done old new
      → RelatesNames (GivesPassword policy name password result) old new
  text_gives_password policy name edit password text given admits done result tells serves before has =
      let it = serves before has in
      let left = accepted_edit_leaves_given name edit before it.0 in
      (it.0, it.1.has, λ honest. let answers = it.1.answers honest in grind (arith, given (get before name)))

-- a name whose text is read, verified and perhaps replaced
module _ (policy : PolicyValue) (name password : List ℕ) (before : Texts) where
  -- a change of a password that the policy refuses leaves the names as they are
  pub denial_keeps_names : (fresh : List ℕ) (why : Denial) (rng left : Stream)
      → IsChangeRefusal policy password fresh (get before name) rng left why
      → ChangesName {X = Unit {0}} policy name password fresh rng left (Err (of_denial why)) before before
  denial_keeps_names fresh why rng left (inl (denies, same)) = (refl, λ is. inl ((why, denies, refl), same))
  denial_keeps_names fresh why rng left (inr (admits, making, drawn)) = (refl, grind arith)

  -- if a text that was read is not replaced, the file has failed: the error is no refusal
  failed_replacement_is_no_refusal : (text new : List ℕ) (v : Phc) (after : Texts) (e : FileError)
      → get before name ≡ Some text → SaysValue (Some text) v
      → Answers before ((name, replacing text new) ∷ []) (Err e) after → ¬ (IsTrue (is_account_refusal (of_file e)))
  failed_replacement_is_no_refusal text new v after e has says answers is =
      let no = answers.0 (subst IsTrue (is_account_refusal-of_file e) is) in
      let unlocked = says.0 in let same = bytes_eq-Decides text text in grind arith

  -- a change of a password that the policy accepts is made, unless the file fails
  pub replacement_changes_password : (new text : List ℕ) (rng left : Stream) (fresh : PasswordHash) (after : Texts)
      (done : Result (Unit {0}) FileError) (result : Result (Unit {0}) AccountError) → TellsOf result done
      → get before name ≡ Some text → AdmitsStored policy password (Some text) → AdmitsStored policy new (Some (text_of fresh))
      → IsFresh policy.target new (drawn_salt rng) (phc_of fresh)
      → Answers before ((name, replacing text (text_of fresh)) ∷ []) done after
      → ChangesName policy name password new rng left result before after
  replacement_changes_password new text rng left fresh after (Ok x) result is has by next made answers =
      let left = accepted_edit_leaves_given name (replacing text (text_of fresh)) before after answers in
      rw is (rw has by, rw left.1 next, (phc_of fresh, made, left.0))
  replacement_changes_password new text rng left fresh after (Err e) result is has by next made answers =
      rw is (answers.1, λ is. absurd (failed_replacement_is_no_refusal text (text_of fresh) by.0 after e has by.1 answers is))

  -- a login whose fresh text was to be written renews the text, or leaves it as it is
  pub login_renews_text : (text drawn : List ℕ) (v : Phc) (fresh : PasswordHash) (after : Texts)
      (done : Result (Unit {0}) FileError) (result : Result Accepted AccountError)
      → get before name ≡ Some text → SaysValue (Some text) v → LogsIn policy password drawn v Rehashed (phc_of fresh)
      → AdmitsStored policy password (Some text) → AdmitsStored policy password (Some (text_of fresh))
      → Answers before ((name, replacing text (text_of fresh)) ∷ []) done after → TellsOfRenewal result done
      → LogsNameIn policy name password drawn result before after
  login_renews_text text drawn v fresh after (Ok x) result has says step by next answers is =
      let left = accepted_edit_leaves_given name (replacing text (text_of fresh)) before after answers in
      rw is (rw has by, rw left.1 next, (v, phc_of fresh, rw has says, step, left.0))
  login_renews_text text drawn v fresh after (Err e) result has says step by next answers (inl is) =
      rw is (rw has by, rw (answers.1 ∙ refl) (rw has by), (v, v, rw has says, (step.0, step.1, refl), answers.1))
  login_renews_text text drawn v fresh after (Err e) result has says step by next answers (inr is) =
      rw is (answers.1, λ is. absurd (failed_replacement_is_no_refusal text (text_of fresh) v after e has says answers is))

-- 16 bytes are drawn for a fresh text, whether it is written or not
pub fresh_text_is_drawn : (result : Result Accepted AccountError) (done : Result (Unit {0}) FileError) (before after : Stream)
    → TellsOfRenewal result done → after ≡ stream_after {E = Denial} (Ok Rehashed) before → DrawsForLogin result before after
fresh_text_is_drawn result (Ok x) before after tells is = rw tells is
fresh_text_is_drawn result (Err e) before after (inl tells) is = rw tells is
fresh_text_is_drawn result (Err e) before after (inr tells) is = rw tells (inr is)
