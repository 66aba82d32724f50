use Rattle.argon2_calibrate.proofs.search.times.Given as goal

abbrev pub invariant-again : goal.invariant-again
invariant-again g l = g.S.Stopwatch.may_take l.lanes l.m_cost l.t_cost l.times
