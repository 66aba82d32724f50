use Rattle.std.proofs.Common.{rules}
use Rattle.std.specs.Prelude.{◌≢◌}
use Rattle.argon2.specs.base_declared.error.password_hash.Error.TheVariants.{PasswordInvalid}
use Rattle.argon2_example_uses.proofs.passwords.is_accepted.Goals as goal

pub returns-in-Ok-clause-verified : goal.returns-in-Ok-clause-verified
returns-in-Ok-clause-verified c = rw c.default.ensures at c.in-Ok.ensures.answer

pub returns-in-Err-PasswordInvalid-clause-verified : goal.returns-in-Err-PasswordInvalid-clause-verified
returns-in-Err-PasswordInvalid-clause-verified c =
    rw (c.default.ensures, c.in-Err-PasswordInvalid.field-0-is) at c.in-Err-PasswordInvalid.ensures.answer

pub returns-in-Err : goal.returns-in-Err
returns-in-Err c =
    let other : c.in-Err.e ≢ PasswordInvalid = search rules in
    record {
      answer = rw c.default.ensures at c.in-Err.ensures.accepted;
      verified = (rw c.default.ensures at c.in-Err.ensures.answer, other);
    }
