use Rattle.std.proofs.Common.{◌∙◌}
use Rattle.std.proofs.Math.Logic.{∥∥₁_map}
use Rattle.argon2_audit.proofs.Objects.{HasItems-item}
use Rattle.argon2_audit.proofs.json_report.JsonReportRemarks.add.Goals as goal

pub invariant_of-self-2 : goal.invariant_of-self-2
invariant_of-self-2 c = record {
  whole = λ is. ∥∥₁_map (c.args.self.now.whole is) (λ has.
      let added = c.in_ok-write_finding.ensures.1 in (added.adds.before ∙ has.0, HasItems-item added has.1));
}
