use Rattle.argon2_passwd.proofs.Common.{Appends, arith, common_steps, List, Option, Result, take, WriteAppends, ℕ}
use Rattle.argon2_passwd.proofs.run.tell.Goals as goal

-- the bytes that one write wrote are a prefix of the text
written_bytes_are_prefix : {E : Type 0} (old new : Option (List ℕ)) (r : Result ℕ E) (text : List ℕ) → WriteAppends old new r text
    → (n : ℕ) × Appends old new (take n text)
written_bytes_are_prefix old new r text is = grind (arith, common_steps)

pub returns-in-Ok : goal.returns-in-Ok
returns-in-Ok g c =
    rw (c.in-OnFile.is, ← c.in-Ok.ensures, ← c.as_str.ensures.value, ← c.as_bytes.ensures.value)
    (written_bytes_are_prefix _ _ c.write.result _ c.write.ensures.bytes)
