use Rattle.argon2.proofs.password_hash.hashing.Argon2CustomizedPasswordHasherPasswordHash.hash_password_customized.Goals as goal

pub returns-clause-accepted : goal.returns-clause-accepted
returns-clause-accepted c = rw c.with_settings.ensures at c.hash_password_with_salt.ensures.accepted
