use Rattle.argon2.proofs.Imports.{arith}
use Rattle.argon2.proofs.params.Params.read.Goals as goal

pub returns-in_err-build : goal.returns-in_err-build
returns-in_err-build c = grind arith

pub returns : goal.returns
returns c = grind arith
