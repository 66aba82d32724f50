use Rattle.argon2_base.proofs.Imports.{rules, phc_of}
use Rattle.argon2_base.proofs.phc_lemmas.Equalities.{equal_phcs}
use Rattle.argon2_base.proofs.phc.hash.PasswordHashPartialEq.eq.Goals as goal

pub returns-then-eq-4-clause-same : goal.returns-then-eq-4-clause-same
returns-then-eq-4-clause-same c =
    equal_phcs (phc_of c.args.self.now) (phc_of c.args.other.now) c.eq-then-eq-4.result (search rules)

pub returns-else-eq-4-clause-same : goal.returns-else-eq-4-clause-same
returns-else-eq-4-clause-same c = equal_phcs (phc_of c.args.self.now) (phc_of c.args.other.now) c.if-eq-3.value (search rules)
