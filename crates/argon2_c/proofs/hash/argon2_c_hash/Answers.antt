use Rattle.std.proofs.Common.{arith}
use Rattle.argon2_c.proofs.hash.argon2_c_hash.Goals as goal

pub returns-then-memory-block_count-clause-refused : goal.returns-then-memory-block_count-clause-refused
returns-then-memory-block_count-clause-refused c = grind arith
