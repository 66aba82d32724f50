use Rattle.argon2_accounts.proofs.AccountLemmas.{arith, IsChangeRefusal, replacement_changes_password, edit_relates_names, err_is, inl, inr, denial_keeps_names, policy_value, read_leaves_names, refl, rules, Some, subst, sym, ◌∙◌}
use Rattle.argon2_accounts.proofs.AccountLemmas.{AdmitsStored}
use Rattle.argon2_accounts.proofs.accounts.Accounts.change_password.Goals as goal

pub returns-in_err-text-clause-call : goal.returns-in_err-text-clause-call
returns-in_err-text-clause-call g c =
    rw (err_is _ _ c.from_residual.ensures.1) (inl (Some c.in_err-text.field-0.0, c.in_err-text.ensures.reads, refl))

pub returns-in_err-text-clause-names : goal.returns-in_err-text-clause-names
returns-in_err-text-clause-names g c = read_leaves_names _ c.in_err-text.ensures.reads (λ names has honest.
    rw (err_is _ _ c.from_residual.ensures.1) (refl, λ is. let no_refusal = c.in_err-text.ensures.error in grind arith))

pub returns-in_err-renewal-clause-names : goal.returns-in_err-renewal-clause-names
returns-in_err-renewal-clause-names g c = read_leaves_names _ c.in_ok-text.ensures.reads (λ names has honest.
    let policy = policy_value c.args.self.now.policy in
    let same = c.as_deref-stored.ensures.value ∙ sym (c.in_ok-text.ensures.shows names has honest) in
    rw (err_is _ _ c.from_residual-in_err-renewal.ensures.1)
    (denial_keeps_names policy c.args.name.now c.args.old.now names c.args.new.now
    c.in_err-renewal.field-0.0 (g.R.Rng.stream c.args.rng.now) (g.R.Rng.stream c.change_password.new.rng)
    (subst (λ o. IsChangeRefusal policy c.args.old.now c.args.new.now o (g.R.Rng.stream c.args.rng.now)
    (g.R.Rng.stream c.change_password.new.rng) c.in_err-renewal.field-0.0) same
    c.in_err-renewal.ensures.made)))

pub returns-clause-call : goal.returns-clause-call
returns-clause-call g c =
    inr (
      _,
      _,
      c.in_ok-renewal.renewal.fresh,
      _,
      c.in_ok-text.ensures.reads,
      c.in_ok-renewal.ensures.made.1,
      c.replace-done.ensures,
      search rules,
    )

pub returns-clause-names : goal.returns-clause-names
returns-clause-names g c =
    edit_relates_names _ c.in_ok-text.ensures.reads c.replace-done.ensures (λ before after has honest answers.
    let policy = policy_value c.args.self.now.policy in
    let old = c.args.old.now in
    let some = c.in_ok-renewal.ensures.old in
    let is = c.in_ok-text.ensures.shows before has honest ∙ sym c.as_deref-stored.ensures.value ∙ some in
    replacement_changes_password policy c.args.name.now old before c.args.new.now c.in_ok-renewal.renewal.old.now
    (g.R.Rng.stream c.args.rng.now) _ c.in_ok-renewal.renewal.fresh after c.replace-done.result _
    (search rules) is (subst (AdmitsStored policy old) some c.in_ok-renewal.ensures.made.0) c.in_ok-renewal.ensures.accepted
    c.in_ok-renewal.ensures.made.1 answers)
