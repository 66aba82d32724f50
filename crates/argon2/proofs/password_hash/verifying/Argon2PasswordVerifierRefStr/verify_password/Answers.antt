use Rattle.argon2.proofs.Imports.{inl, phc_of}
use Rattle.argon2.proofs.password_hash.verifying.Argon2PasswordVerifierRefStr.verify_password.Goals as goal

pub returns-clause-answer : goal.returns-clause-answer
returns-clause-answer c = inl (phc_of c.in_ok-hash.hash, c.in_ok-hash.ensures.found, c.verify_password.ensures.answer)
