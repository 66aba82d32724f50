use Rattle.argon2.proofs.Imports.{arith}
use Rattle.argon2.proofs.params.builder.ParamsBuilder.build.Goals as goal

pub returns : goal.returns
returns c = grind arith
