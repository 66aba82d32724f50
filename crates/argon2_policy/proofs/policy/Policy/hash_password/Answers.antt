use Rattle.argon2_policy.specs.Policy.{drawn_salt, policy_value}
use Rattle.argon2_policy.proofs.AdmittingLemmas.{made_text_is_admitted}
use Rattle.argon2_policy.proofs.policy.Policy.hash_password.Goals as goal

pub returns-clause-accepted : goal.returns-clause-accepted
returns-clause-accepted g c =
    made_text_is_admitted (policy_value c.args.self.now)
    (record { is_target = c.args.self.now.fits; within = c.args.self.now.within })
    c.args.password.now (drawn_salt (g.R.Rng.stream c.args.rng.now)) c.hash_password.result c.hash_password.ensures.answer
