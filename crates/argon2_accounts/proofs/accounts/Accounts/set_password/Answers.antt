use Rattle.argon2_accounts.proofs.AccountLemmas.{setting, text_gives_password, inr, policy_value, refl, rules, text_of}
use Rattle.argon2_accounts.proofs.accounts.Accounts.set_password.Goals as goal

pub returns-in_err-text-clause-names : goal.returns-in_err-text-clause-names
returns-in_err-text-clause-names g c before has = (before, has, search rules)

pub returns-clause-call : goal.returns-clause-call
returns-clause-call g c = inr (c.in_ok-text.text, c.set.result, c.in_ok-text.ensures.made, search rules, c.set.ensures)

pub returns-clause-names : goal.returns-clause-names
returns-clause-names g c = text_gives_password (policy_value c.args.self.now.policy) _ (setting (text_of c.in_ok-text.text)) _
    (text_of c.in_ok-text.text) (λ o. refl) c.in_ok-text.ensures.accepted c.set.result _ (search rules) c.set.ensures
