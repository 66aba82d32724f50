use Rattle.argon2.proofs.Imports.{mixed-comm}
use Rattle.argon2.proofs.laws.mixing_symmetric.Goals as goal

pub returns : goal.returns
returns c = mixed-comm
