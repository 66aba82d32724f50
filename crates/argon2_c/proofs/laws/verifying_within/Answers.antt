use Rattle.argon2_c.proofs.PhcVerified.{IsVerified-accepted, IsVerified-hashed}
use Rattle.argon2_c.proofs.laws.verifying_within.Goals as goal

pub returns-clause-hashes : goal.returns-clause-hashes
returns-clause-hashes g = IsVerified-hashed

pub returns-clause-accepts : goal.returns-clause-accepts
returns-clause-accepts g = IsVerified-accepted
