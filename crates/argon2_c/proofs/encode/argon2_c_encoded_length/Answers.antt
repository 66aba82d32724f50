use Rattle.std.proofs.Common.{length, ap, arith}
use Rattle.argon2_c.proofs.Lengths.{length-text}
use Rattle.argon2_c.proofs.encode.argon2_c_encoded_length.Goals as goal

pub returns-clause-value : goal.returns-clause-value
returns-clause-value c = λ salt tag variant s t.
    let front = rw c.in-Some.ensures.found at c.prefix-prefix.ensures in
    omega (arith, length-text _ _ salt tag front, s, t, ap length c.as_str.ensures.value)
