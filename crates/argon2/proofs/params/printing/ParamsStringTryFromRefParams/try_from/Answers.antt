use Rattle.argon2.proofs.Imports.{ap, arith, Ok}
use Rattle.argon2.proofs.params.printing.ParamsStringTryFromRefParams.try_from.Goals as goal

pub returns : goal.returns
returns c =
    let made = rw (
      c.m_cost-m.ensures.value,
      c.t_cost-t.ensures.value,
      c.p_cost-p.ensures.value,
      c.keyid.ensures.value,
      c.data.ensures.value,
    )
    at c.params_string.ensures in
    (ap Ok made.list, grind arith)
