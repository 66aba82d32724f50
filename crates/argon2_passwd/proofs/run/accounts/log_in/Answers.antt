use Rattle.argon2_passwd.proofs.Common.{[], accepted_of, ap, arith, database_of, Denies, Err, err_is, Failure, FileUse, Ghosts, inl, inr, List, text_read_by_bytes, same_use_then, None, Ok, Option, option_copied, option_map}
use Rattle.argon2_passwd.proofs.Common.{phc_of, policy_value, PolicyValue, ReadsText, refl, Result, SaysValue, Some, status_of, string_bytes, subst, sym, ℕ, ◌∙◌, ◌∷◌, ◌≡◌, ◌≢◌}
use Rattle.argon2_base.specs.PhcText.{phc_text}
use Rattle.argon2_store.specs.Edits.{replacing}
use Rattle.argon2_passwd.specs.Answers.{answer_without_text, EditsOnce, EndsLogin, EndsOrFailsToOpen, IsAcceptedLogin, IsSalt, login_by, LogsIn, Outcome, Phc}
use Rattle.argon2.specs.declared.login.answers.Accepted.{Accepted}
use Rattle.argon2.specs.declared.login.answers.Accepted.TheVariants.{Kept, Rehashed}
use Rattle.argon2_policy.specs.declared.login.LoggedIn.{LoggedIn}
use Rattle.argon2_policy.specs.declared.login.LoggedIn.TheVariants as login
use Rattle.argon2_policy.specs.declared.login.Renewal.{Renewal}
use Rattle.argon2_passwd.proofs.run.accounts.log_in.Goals as goal

-- what says a value is a text that is stored
value_is_of_text : (stored : Option (List ℕ)) (v : Phc) → SaysValue stored v → (text : List ℕ) × (stored ≡ Some text)
value_is_of_text None v says = absurd says
value_is_of_text (Some text) v says = (text, refl)

-- a login that renews no text is answered as it is
unrenewed_login_keeps_answer : (done : LoggedIn) → ((renewal : Renewal) → done ≢ login.Renewed renewal)
    → accepted_of done ≡ answer_without_text (accepted_of done)
unrenewed_login_keeps_answer login.Current isnt = refl
unrenewed_login_keeps_answer (login.Renewed renewal) isnt = absurd (isnt renewal refl)
unrenewed_login_keeps_answer login.Kept isnt = refl

-- a file that can't be opened to write the fresh text refuses no login
unopened_file_keeps_login : (failure : Failure) → status_of failure ≡ 3 → login_by Rehashed (Err failure) ≡ Ok Kept
unopened_file_keeps_login failure three = grind arith

module _ {S : Type 0} {g : Ghosts S} {path name old : List ℕ} (Closed : List (FileUse S) → Type 0) where
  -- a login whose text was to be replaced ends by the outcome of the replacement
  replacement_ends_login : (w : Phc) (read : FileUse S) (done : Outcome)
      → EndsOrFailsToOpen (EditsOnce g path name (replacing old (phc_text w)) (λ more. Closed (read ∷ more))) (Closed (read ∷ []))
      done → EndsLogin g path name old w Rehashed (login_by Rehashed done) Closed read
  replacement_ends_login w read done (inl edited) = inr (done, refl, edited)
  replacement_ends_login w read (Ok x) (inr (closed, never)) = absurd never
  replacement_ends_login w read (Err failure) (inr (closed, three)) = inl (unopened_file_keeps_login failure three, closed)

  -- a login is accepted by the text that was read, and ends as `ends` says
  text_logs_in : {Gives : List ℕ → Type 0} {policy : PolicyValue} {password drawn : List ℕ} {stored found : Option (List ℕ)}
      (v w : Phc) (did : Accepted) {result : Result Accepted Failure} {Next : FileUse S → Type 0}
      → IsSalt Gives drawn → stored ≡ found → stored ≡ Some old → SaysValue stored v → LogsIn policy password drawn v did w
      → (read : ReadsText g path name (Ok found) Next)
      → EndsLogin g path name old w did result Closed
      (record { path = path; first = database_of read.before; last = database_of read.after })
      → IsAcceptedLogin g Gives policy path name password result Closed
  text_logs_in {stored = stored} v w did salt same is says logs_in read ends = record {
    old = old;
    drawn = _;
    value = v;
    next = w;
    did = did;
    salt = salt;
    says = subst (λ o. SaysValue o v) is says;
    logs_in = logs_in;
    read = text_read_by_bytes name (sym same ∙ is) (same_use_then read ends);
  }

pub returns-in_err-text : goal.returns-in_err-text
returns-in_err-text g c =
    rw (err_is _ _ c.from_residual.ensures.1)
    (elim c.in_err-text.ensures [
      | inl missing ↦ inl (inl (inr missing))
      | inr untouched ↦ inr untouched
    ])

pub returns-in_err-done : goal.returns-in_err-done
returns-in_err-done g c =
    let policy = policy_value c.args.access.now.policy.now in
    let denied = subst (λ o. Denies policy c.args.password.now o c.in_err-done.field-0.0) c.as_deref.ensures.value
    c.in_err-done.ensures.step in
    rw (err_is _ _ c.from_residual-in_err-done.ensures.1)
    (inl (inl (inl (
      option_map string_bytes c.in_ok-text.text,
      (c.in_err-done.field-0.0, denied, refl),
      c.in_ok-text.ensures,
    ))))

pub returns-in_default : goal.returns-in_default
returns-in_default g c =
    let (v, says, logs_in) = c.in_ok-done.ensures.step in
    let (old, is) = value_is_of_text (option_copied c.as_deref.result) v says in
    let Closed = g.P.Outside.closed c.stored_text.new.outside in
    inl (inr (text_logs_in Closed v _ _ c.requires.salt c.as_deref.ensures.value is says logs_in
    c.in_ok-text.ensures
    (inl (
      ap Ok (c.accepted.ensures ∙ unrenewed_login_keeps_answer c.in_ok-done.done c.in_default.not-Renewed),
      c.in_ok-text.ensures.next,
    ))))

pub returns : goal.returns
returns g c =
    let w = phc_of c.in-Renewed.renewal.fresh in
    let (v, says, logs_in) = rw c.in-Renewed.is at c.in_ok-done.ensures.step in
    let is = rw c.in-Renewed.is at c.in_ok-done.ensures.old in
    let Closed = g.P.Outside.closed c.edit_file.new.outside in
    let ends = replacement_ends_login Closed w _ c.edit_file.result
    (c.edit_file.ensures _ c.in_ok-text.ensures.next) in
    inl (inr (text_logs_in Closed v w Rehashed c.requires.salt c.as_deref.ensures.value is says logs_in
    c.in_ok-text.ensures (rw c.after_renewal.ensures ends)))
