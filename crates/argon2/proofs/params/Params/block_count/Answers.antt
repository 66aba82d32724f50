use Rattle.argon2.proofs.Imports.{arith}
use Rattle.argon2.proofs.params.Params.block_count.Goals as goal

pub returns-clause-value : goal.returns-clause-value
returns-clause-value c = grind arith
