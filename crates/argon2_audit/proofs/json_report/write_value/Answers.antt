use Rattle.std.proofs.Common.{arith, rules}
use Rattle.json.proofs.Printed.Decimals.{IsNumber-decimal}
use Rattle.argon2_audit.proofs.Objects.{OnOk-token}
use Rattle.argon2_audit.proofs.json_report.write_value.Goals as goal

pub returns-in-Number : goal.returns-in-Number
returns-in-Number c = rw c.in-Number.is (OnOk-token c.u64.ensures (λ added. record {
  adds = added;
  flat = (IsNumber-decimal c.in-Number.number (search rules), omega arith);
}))

pub returns-in-Text : goal.returns-in-Text
returns-in-Text c = rw c.in-Text.is (OnOk-token c.string.ensures (λ added. record { adds = added; flat = (tt, omega arith) }))
