use Rattle.argon2.proofs.Imports.{arith}
use Rattle.argon2.proofs.kdf.Argon2Kdf.derive_key.Goals as goal

pub returns-clause-taken : goal.returns-clause-taken
returns-clause-taken c = grind arith

pub returns-clause-key : goal.returns-clause-key
returns-clause-key c = grind arith
