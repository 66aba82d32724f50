use Rattle.std.proofs.Common.{inr}
use Rattle.argon2_policy.specs.Policy.{policy_value}
use Rattle.argon2_policy.proofs.DenyingLemmas.{err_is}
use Rattle.argon2_policy.proofs.VerifyingLemmas.{found_is_admitted}
use Rattle.argon2_policy.proofs.policy.Policy.change_password.Goals as goal

pub returns-in_err-fresh-clause-made : goal.returns-in_err-fresh-clause-made
returns-in_err-fresh-clause-made g c =
    let (v, says, within, found) = c.in_ok-text.ensures.found in
    rw (err_is _ _ c.from_residual-in_err-fresh.ensures.1)
    (inr (
      (v, says, found_is_admitted (policy_value c.args.self.now) c.args.old.now v c.in_ok-text.field-0-1 within found),
      c.in_err-fresh.ensures.made,
      c.hash_password.ensures.drawn,
    ))

pub returns-clause-made : goal.returns-clause-made
returns-clause-made g c =
    let (v, says, within, found) = c.in_ok-text.ensures.found in (
      (v, says, found_is_admitted (policy_value c.args.self.now) c.args.old.now v c.in_ok-text.field-0-1 within found),
      c.in_ok-fresh.ensures.made,
      c.hash_password.ensures.drawn,
    )
