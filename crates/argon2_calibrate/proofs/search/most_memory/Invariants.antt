use Rattle.std.proofs.Common.{◌≤◌, ◌*◌}
use Rattle.argon2_calibrate.specs.Choice.{IsHalved}
use Rattle.argon2_calibrate.proofs.search.most_memory.Given as goal

abbrev pub invariant-halves : goal.invariant-halves
invariant-halves g l = (8 * l.options.lanes ≤ l.m_cost) × (l.m_cost ≤ l.options.most)
    × IsHalved (g.S.Stopwatch.may_take l.options.lanes) l.options l.m_cost

abbrev pub decreases-halves : goal.decreases-halves
decreases-halves g l = l.m_cost
