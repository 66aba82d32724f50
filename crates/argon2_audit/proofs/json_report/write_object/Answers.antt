use Rattle.std.proofs.lemmas.Result.{on_ok_weaker}
use Rattle.argon2_audit.proofs.Objects.{Adds-append, Adds-token}
use Rattle.argon2_audit.proofs.json_report.write_object.Goals as goal

pub returns : goal.returns
returns c = on_ok_weaker c.write_members.result (λ all. record {
  adds = Adds-append (Adds-token c.begin_object.ensures c.in_ok-begin_object.ensures.ok) all.0;
  flat = all.1;
}) c.write_members.ensures
