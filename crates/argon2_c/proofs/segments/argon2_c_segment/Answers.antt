use Rattle.std.proofs.Common.{arith}
use Rattle.argon2_c.proofs.segments.argon2_c_segment.Goals as goal

pub returns-clause-taken : goal.returns-clause-taken
returns-clause-taken c = grind arith

pub returns-clause-fills : goal.returns-clause-fills
returns-clause-fills c = grind arith
