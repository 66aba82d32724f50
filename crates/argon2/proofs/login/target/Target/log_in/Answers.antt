use Rattle.argon2.proofs.Imports.{arith}
use Rattle.argon2.proofs.login.target.Target.log_in.Goals as goal

pub returns-then-is_shown_by-clause-step : goal.returns-then-is_shown_by-clause-step
returns-then-is_shown_by-clause-step g c = grind arith

pub returns-in_default-clause-step : goal.returns-in_default-clause-step
returns-in_default-clause-step g c = grind arith

pub returns-clause-step : goal.returns-clause-step
returns-clause-step g c = grind arith
