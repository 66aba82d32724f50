use Rattle.argon2_accounts.proofs.AccountLemmas.{adding, text_gives_password, inr, policy_value, refl, rules, text_of}
use Rattle.argon2_accounts.proofs.accounts.Accounts.register.Goals as goal

pub returns-in_err-text-clause-names : goal.returns-in_err-text-clause-names
returns-in_err-text-clause-names g c before has = (before, has, search rules)

pub returns-clause-call : goal.returns-clause-call
returns-clause-call g c = λ short.
    inr (c.in_ok-text.text, c.add.result, c.in_ok-text.ensures.made, search rules, c.add.ensures.call)

pub returns-clause-names : goal.returns-clause-names
returns-clause-names g c = text_gives_password (policy_value c.args.self.now.policy) _ (adding (text_of c.in_ok-text.text)) _
    (text_of c.in_ok-text.text) (λ o. refl) c.in_ok-text.ensures.accepted c.add.result _ (search rules) c.add.ensures.call
