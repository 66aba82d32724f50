use Rattle.argon2.proofs.Imports.{ap}
use Rattle.argon2.proofs.password_hash.hashing.Argon2PasswordHasherPasswordHash.hash_password.Goals as goal

pub returns-clause-answer : goal.returns-clause-answer
returns-clause-answer g c = rw (ap (λ it. it.0) c.fill_bytes.ensures) at c.hash_password_with_salt.ensures.answer

pub returns-clause-drawn : goal.returns-clause-drawn
returns-clause-drawn g c = ap (λ it. it.1) c.fill_bytes.ensures
