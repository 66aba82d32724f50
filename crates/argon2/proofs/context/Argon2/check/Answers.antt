use Rattle.argon2.proofs.Imports.{arith}
use Rattle.argon2.proofs.context.Argon2.check.Goals as goal

pub returns-clause-answer : goal.returns-clause-answer
returns-clause-answer c = grind arith
