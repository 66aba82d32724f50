use Rattle.argon2_store.proofs.Imports.{arith, header, held_is_part}
use Rattle.argon2_store.proofs.headers.is_damaged.Goals as goal

pub returns-then-head-eq-MAGIC-clause-found : goal.returns-then-head-eq-MAGIC-clause-found
returns-then-head-eq-MAGIC-clause-found g c clean = search (arith, header, held_is_part)
