use Rattle.std.proofs.Common.{append_assoc}
use Rattle.argon2_tool.proofs.run.fail.Goals as goal

pub returns-clause-reported : goal.returns-clause-reported
returns-clause-reported g c =
    let cut = simp append_assoc at c.write_line.ensures.cut in
    let said = rw (c.as_bytes.ensures.value, c.as_bytes-2.ensures.value, c.as_bytes-3.ensures.value) at cut in
    rw (← c.text.ensures) (simp append_assoc said)
