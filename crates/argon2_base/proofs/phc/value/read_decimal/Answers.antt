use Rattle.argon2_base.proofs.Imports.{arith, bytes_eq-Decides, parse-decimal}
use Rattle.argon2_base.proofs.phc.value.read_decimal.Goals as goal

pub returns-in_default-clause-only : goal.returns-in_default-clause-only
returns-in_default-clause-only c =
    λ n small is. cc (parse-decimal 32 n _ c.parse.result small (omega arith) is c.parse.ensures.value.0)

pub returns-then-ne-clause-only : goal.returns-then-ne-clause-only
returns-then-ne-clause-only c = λ n small is.
    grind (arith, bytes_eq-Decides, parse-decimal 32 n _ c.parse.result small (omega arith) is c.parse.ensures.value.0)

pub returns-clause-only : goal.returns-clause-only
returns-clause-only c = λ n small is. cc (parse-decimal 32 n _ c.parse.result small (omega arith) is c.parse.ensures.value.0)
