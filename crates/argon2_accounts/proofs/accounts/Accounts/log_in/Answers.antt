use Rattle.argon2_accounts.proofs.AccountLemmas.{AdmitsStored, arith, Denies, fresh_text_is_drawn, edit_relates_names, err_is, drawn_salt, inl, inr, List, LogsIn, policy_value, PolicyValue, read_leaves_names, refl, login_renews_text, rules}
use Rattle.argon2_accounts.proofs.AccountLemmas.{SaysValue, Some, subst, sym, ℕ, ◌∙◌}
use Rattle.std.specs.Prelude.{◌≢◌}
use Rattle.argon2.specs.NamedTexts.{value_after}
use Rattle.argon2_accounts.specs.Accounts.{Phc, Renews, Texts}
use Rattle.argon2_policy.specs.Renewals.{accepted_of, fresh_of}
use Rattle.argon2_policy.specs.declared.login.LoggedIn.{LoggedIn}
use Rattle.argon2_policy.specs.declared.login.Renewal.{Renewal}
use Rattle.argon2_policy.specs.declared.login.LoggedIn.TheVariants as login
use Rattle.argon2_accounts.proofs.accounts.Accounts.log_in.Goals as goal

pub returns-in_err-text-clause-call : goal.returns-in_err-text-clause-call
returns-in_err-text-clause-call g c =
    rw (err_is _ _ c.from_residual.ensures.1) (inl (Some c.in_err-text.field-0.0, c.in_err-text.ensures.reads, refl))

pub returns-in_err-text-clause-names : goal.returns-in_err-text-clause-names
returns-in_err-text-clause-names g c = read_leaves_names _ c.in_err-text.ensures.reads (λ names has honest.
    rw (err_is _ _ c.from_residual.ensures.1) (refl, λ is. let no_refusal = c.in_err-text.ensures.error in grind arith))

pub returns-in_err-done-clause-names : goal.returns-in_err-done-clause-names
returns-in_err-done-clause-names g c = read_leaves_names _ c.in_ok-text.ensures.reads (λ names has honest.
    let policy = policy_value c.args.self.now.policy in
    let same = c.as_deref.ensures.value ∙ sym (c.in_ok-text.ensures.shows names has honest) in
    rw (err_is _ _ c.from_residual-in_err-done.ensures.1) (
      refl,
      λ is. (
        c.in_err-done.field-0.0,
        subst (λ o. Denies policy c.args.password.now o c.in_err-done.field-0.0) same c.in_err-done.ensures.step,
        refl,
      ),
    ))

-- a login that renews no text leaves the names as they are
unrenewed_login_leaves_names : (policy : PolicyValue) (name password drawn : List ℕ) (names : Texts) (v : Phc) (done : LoggedIn)
    → ((renewal : Renewal) → done ≢ login.Renewed renewal)
    → LogsIn policy password drawn v (accepted_of done) (value_after v (fresh_of done))
    → LogsIn policy password drawn v (accepted_of done) v × Renews name (accepted_of done) v names names
unrenewed_login_leaves_names policy name password drawn names v login.Current isnt logs_in = (logs_in, refl)
unrenewed_login_leaves_names policy name password drawn names v (login.Renewed renewal) isnt logs_in = absurd (isnt renewal refl)
unrenewed_login_leaves_names policy name password drawn names v login.Kept isnt logs_in = (logs_in, refl)

pub returns-in_default-clause-names : goal.returns-in_default-clause-names
returns-in_default-clause-names g c = read_leaves_names _ c.in_ok-text.ensures.reads (λ names has honest.
    let policy = policy_value c.args.self.now.policy in
    let same = c.as_deref.ensures.value ∙ sym (c.in_ok-text.ensures.shows names has honest) in
    let (v, says, logs_in) = c.in_ok-done.ensures.step in
    let it = subst (AdmitsStored policy c.args.password.now) same c.in_ok-done.ensures.accepted.0 in
    let
    (step, leaves) = unrenewed_login_leaves_names policy c.args.name.now _ _ names v c.in_ok-done.done c.in_default.not-Renewed
    logs_in in
    rw c.accepted.ensures (it, it, (v, v, subst (λ o. SaysValue o v) same says, step, leaves)))

pub returns-clause-call : goal.returns-clause-call
returns-clause-call g c =
    let (v, says, step) = rw c.in-Renewed.is at c.in_ok-done.ensures.step in
    inr (_, _, c.in-Renewed.renewal.fresh, _, c.in_ok-text.ensures.reads, step.2, c.replace-renewed.ensures, search rules)

pub returns-clause-names : goal.returns-clause-names
returns-clause-names g c =
    edit_relates_names _ c.in_ok-text.ensures.reads c.replace-renewed.ensures (λ before after has honest answers.
    let policy = policy_value c.args.self.now.policy in
    let password = c.args.password.now in
    let drawn = (drawn_salt (g.R.Rng.stream c.args.rng.now)) in
    let renewal = c.in-Renewed.renewal in
    let (v, says, step) = rw c.in-Renewed.is at c.in_ok-done.ensures.step in
    let (by, next) = rw c.in-Renewed.is at c.in_ok-done.ensures.accepted in
    let some = rw c.in-Renewed.is at c.in_ok-done.ensures.old in
    let is = c.in_ok-text.ensures.shows before has honest ∙ sym c.as_deref.ensures.value ∙ some in
    login_renews_text policy c.args.name.now password before renewal.old.now drawn v renewal.fresh after
    c.replace-renewed.result _ is (subst (λ o. SaysValue o v) some says) step
    (subst (AdmitsStored policy password) some by) next answers (search rules))

pub returns-clause-drawn : goal.returns-clause-drawn
returns-clause-drawn g c =
    fresh_text_is_drawn c.after_renewal.result c.replace-renewed.result (g.R.Rng.stream c.args.rng.now)
    (g.R.Rng.stream c.log_in.new.rng)
    (search rules) (rw c.in-Renewed.is at c.in_ok-done.ensures.drawn)
