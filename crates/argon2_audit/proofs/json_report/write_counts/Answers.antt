use Rattle.std.proofs.lemmas.Result.{on_ok_weaker}
use Rattle.argon2_audit.proofs.json_report.write_counts.Goals as goal

pub returns : goal.returns
returns c = on_ok_weaker c.write_object.result (λ all. rw (
  ← c.count.ensures,
  ← c.count-2.ensures,
  ← c.count-3.ensures,
  ← c.count-4.ensures,
  ← c.count-5.ensures,
  ← c.count-6.ensures,
  ← c.count-7.ensures,
  ← c.count-8.ensures,
  ← c.count-9.ensures,
  ← c.count-10.ensures,
) all) c.write_object.ensures
