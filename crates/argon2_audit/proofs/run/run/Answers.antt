use Rattle.std.proofs.Common.{rules}
use Rattle.argon2_audit.proofs.run.run.Goals as goal

pub returns-in-Ok-clause-audit : goal.returns-in-Ok-clause-audit
returns-in-Ok-clause-audit g c = λ _.
    (c.in-Ok.tally, c.in-Ok.ensures.tally, c.in-Ok.ensures.object, rw (c.if-is_clean.true, c.in-Ok.is) at c.is_clean.ensures)

pub returns-in-Ok-2-clause-audit : goal.returns-in-Ok-2-clause-audit
returns-in-Ok-2-clause-audit g c = λ _.
    (c.in-Ok.tally, c.in-Ok.ensures.tally, c.in-Ok.ensures.object, rw (c.if-is_clean.false, c.in-Ok.is) at c.is_clean.ensures)

pub returns-in-Ok-2-clause-quiet : goal.returns-in-Ok-2-clause-quiet
returns-in-Ok-2-clause-quiet g c = search rules
