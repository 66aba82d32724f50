use Rattle.argon2.proofs.Imports.{arith, common_steps}
use Rattle.argon2.proofs.context.Argon2.hash_password_into.Goals as goal

pub returns-clause-answer : goal.returns-clause-answer
returns-clause-answer g c = grind (arith, common_steps)

pub returns-clause-tag : goal.returns-clause-tag
returns-clause-tag g c = grind arith
