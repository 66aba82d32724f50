use Rattle.std.proofs.Common.{inr}
use Rattle.std.specs.Option.{option_copied}
use Rattle.argon2_policy.specs.Policy.{policy_value}
use Rattle.argon2_policy.proofs.DenyingLemmas.{denied_text_not_admitted, err_is, shut_text_says_no_value}
use Rattle.argon2_policy.proofs.policy.Policy.admit.Goals as goal

pub returns-in_err-verify-in-Ok-clause-refused : goal.returns-in_err-verify-in-Ok-clause-refused
returns-in_err-verify-in-Ok-clause-refused c =
    rw (err_is _ _ c.from_residual.ensures.1)
    (rw c.in_err-verify-in-Ok.was at (denied_text_not_admitted (policy_value c.args.self.now) c.args.password.now
    (option_copied c.args.stored) _ c.verify.result c.in-Ok.ensures.only c.verify.ensures.denied))

pub returns-in-Err-clause-refused : goal.returns-in-Err-clause-refused
returns-in-Err-clause-refused c =
    inr (λ admits. shut_text_says_no_value (option_copied c.args.stored) c.in-Err.why c.in-Err.ensures.shut admits.0 admits.1)
