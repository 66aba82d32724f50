use Rattle.argon2.proofs.Imports.{ap, sym, ◌∙◌, block_count_for, Parameters}
use Rattle.argon2.proofs.bound.Bound.admit_hash.Goals as goal

pub returns-clause-within : goal.returns-clause-within
returns-clause-within c =
    let asked = c.in_ok-params.ensures.asked in
    (asked.0, c.block_count.ensures.value ∙ ap (λ (p : Parameters). block_count_for p.m_cost p.p_cost) (sym asked.1))
