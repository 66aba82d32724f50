use Rattle.std.proofs.Common.{arith, ◌≡◌, ◌∷◌}
use Rattle.std.proofs.lemmas.Result.{on_ok_weaker}
use Rattle.argon2_audit.proofs.Objects.{Adds-append, Adds-token}
use Rattle.argon2_audit.proofs.json_report.+write_members.Goals as goal

pub returns : goal.returns
returns t c =
    let all : c.args.members.now ≡ c.in-Some.member.now ∷ c.in-Some.rest.now = c.in-Some.ensures.cases.0 in
    let value = c.in_ok-write_value.ensures in
    rw all (on_ok_weaker c.write_members.result (λ more. (
      Adds-append (Adds-token c.key.ensures c.in_ok-key.ensures.ok) (Adds-append value.adds more.0),
      ((value.flat.0, more.1.0), let flat = value.flat.1 in let others = more.1.1 in omega arith),
    )) c.write_members.ensures)
