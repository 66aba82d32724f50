use Rattle.argon2_policy.specs.Policy.{policy_value}
use Rattle.argon2_policy.proofs.VerifyingLemmas.{found_is_admitted, found_is_outdated}
use Rattle.argon2_policy.proofs.policy.Policy.log_in.Goals as goal

pub returns-clause-step : goal.returns-clause-step
returns-clause-step g c =
    let (v, says, within, found) = c.in_ok-old.ensures.found in (
      v,
      says,
      (
        within,
        found_is_outdated (policy_value c.args.self.now) c.args.password.now v c.in_ok-old.age c.in_default.not-Recent found,
        c.in-Ok.ensures.made,
      ),
    )

pub returns-clause-accepted : goal.returns-clause-accepted
returns-clause-accepted g c =
    let (v, says, within, found) = c.in_ok-old.ensures.found in (
      (v, says, found_is_admitted (policy_value c.args.self.now) c.args.password.now v c.in_ok-old.age within found),
      c.in-Ok.ensures.accepted,
    )

pub returns-in_default-hash_password-clause-accepted :
    goal.returns-in_default-hash_password-clause-accepted
returns-in_default-hash_password-clause-accepted g c =
    let (v, says, within, found) = c.in_ok-old.ensures.found in
    ((v, says, found_is_admitted (policy_value c.args.self.now) c.args.password.now v c.in_ok-old.age within found), tt)
