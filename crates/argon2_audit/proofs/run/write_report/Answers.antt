use Rattle.std.proofs.Common.{rules, refl}
use Rattle.argon2_audit.proofs.run.write_report.Goals as goal

pub returns-in_err-session-in-Quiet-clause-silent : goal.returns-in_err-session-in-Quiet-clause-silent
returns-in_err-session-in-Quiet-clause-silent g c = λ _. refl

pub returns-in_ok-session-in-Quiet-clause-silent : goal.returns-in_ok-session-in-Quiet-clause-silent
returns-in_ok-session-in-Quiet-clause-silent g c = λ _. refl

pub returns-in_err-session-in-Json-clause-unwritten : goal.returns-in_err-session-in-Json-clause-unwritten
returns-in_err-session-in-Json-clause-unwritten g c = search rules
