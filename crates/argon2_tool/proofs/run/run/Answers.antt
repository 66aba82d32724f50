use Rattle.std.proofs.Common.{refl, arith}
use Rattle.argon2_tool.proofs.run.run.Goals as goal

pub returns-in_default-clause-unread : goal.returns-in_default-clause-unread
returns-in_default-clause-unread g c = λ two. refl

pub returns-in_default-clause-unwritten : goal.returns-in_default-clause-unwritten
returns-in_default-clause-unwritten g c = λ two. refl

pub returns-in_default-clause-usage_line : goal.returns-in_default-clause-usage_line
returns-in_default-clause-usage_line g c = λ two. rw c.as_bytes.ensures.value at c.write_line.ensures.cut

pub returns-in-Err-clause-usage : goal.returns-in-Err-clause-usage
returns-in-Err-clause-usage g c =
    ((λ two. absurd (omega arith)), (λ none. absurd (none _ c.in-Some.ensures.found)))

pub returns-in-Err-clause-unread : goal.returns-in-Err-clause-unread
returns-in-Err-clause-unread g c = λ two. absurd (omega arith)

pub returns-in-Err-clause-unwritten : goal.returns-in-Err-clause-unwritten
returns-in-Err-clause-unwritten g c = λ two. absurd (omega arith)

pub returns-in-Err-clause-usage_line : goal.returns-in-Err-clause-usage_line
returns-in-Err-clause-usage_line g c = λ two. absurd (omega arith)

pub returns-in-Err-clause-failed : goal.returns-in-Err-clause-failed
returns-in-Err-clause-failed g c =
    λ one. (c.in-Some.command, c.in-Some.ensures.found, _, c.in-Err.ensures.err, c.fail.ensures.reported)
