use Rattle.std.proofs.Common.{rules}
use Rattle.argon2_audit.proofs.Objects.{HasItems-none}
use Rattle.argon2_audit.proofs.json_report.JsonReport.new.Goals as goal

pub invariant_of-result : goal.invariant_of-result
invariant_of-result c = record { whole = λ _. ∣ (search rules, HasItems-none (search rules)) ∣₁ }
