use Rattle.argon2.proofs.Imports.{arith}
use Rattle.argon2.proofs.params.reading.Found.take.Goals as goal

pub returns-in-t : goal.returns-in-t
returns-in-t c = grind arith
