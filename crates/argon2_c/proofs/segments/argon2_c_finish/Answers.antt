use Rattle.std.proofs.Common.{arith}
use Rattle.argon2.specs.Rfc9106.{xor_lanes}
use Rattle.argon2_c.proofs.segments.argon2_c_finish.Goals as goal

pub returns-clause-taken : goal.returns-clause-taken
returns-clause-taken c = grind arith

pub returns-clause-tag : goal.returns-clause-tag
unfolding xor_lanes
returns-clause-tag c = grind arith
