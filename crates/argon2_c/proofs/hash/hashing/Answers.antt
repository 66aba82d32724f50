use Rattle.std.proofs.Common.{arith, rules}
use Rattle.std.proofs.lemmas.Grind.{common_steps}
use Rattle.argon2_c.proofs.hash.hashing.Goals as goal

pub returns-clause-faultless : goal.returns-clause-faultless
returns-clause-faultless c = grind (arith, common_steps)

pub returns-clause-context : goal.returns-clause-context
returns-clause-context c = search rules
