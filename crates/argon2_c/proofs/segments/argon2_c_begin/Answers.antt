use Rattle.std.proofs.Common.{arith}
use Rattle.argon2_c.proofs.segments.argon2_c_begin.Goals as goal

pub returns-clause-taken : goal.returns-clause-taken
returns-clause-taken c = grind arith

pub returns-clause-begins : goal.returns-clause-begins
returns-clause-begins c = grind arith
