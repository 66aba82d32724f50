use Rattle.std.proofs.Common.{inr, subst}
use Rattle.std.specs.FinMap.{get}
use Rattle.argon2.specs.TextHashing.{drawn_salt}
use Rattle.argon2.specs.Login.{IsLoginAnswer, store_of}
use Rattle.argon2_example_uses.proofs.login.take_over.Goals as goal

pub returns-clause-answer : goal.returns-clause-answer
returns-clause-answer g c =
    let between = store_of c.add.new.self in
    inr (
      between,
      c.in_ok-add.ensures.step,
      subst (λ target. IsLoginAnswer target between c.args.name.now c.args.password.now
          (drawn_salt (g.R.Rng.stream c.args.rng.now)) (get between c.args.name.now) c.login.result
          (store_of c.login.new.self)) c.in_ok-add.ensures.target c.login.ensures.step,
    )
