use Rattle.std.proofs.Common.{IsFalse}
use Rattle.argon2_calibrate.proofs.Trials.{IsTried}
use Rattle.argon2_calibrate.proofs.search.most_passes.Given as goal

abbrev pub invariant-trials : goal.invariant-trials
invariant-trials g l =
    IsTried (g.S.Stopwatch.may_take l.options.lanes) l.options.target l.first l.best l.most l.next l.counter
    × (IsFalse l.busy → IsFalse l.best.busy)
