use Rattle.std.proofs.Common.{true, false}
use Rattle.std.proofs.lemmas.Bool.{le-leb, lt-leb, or_parts}
use Rattle.argon2_calibrate.proofs.Trials.{IsTried-trial}
use Rattle.argon2_calibrate.proofs.search.most_passes.Goals as goal
use Rattle.argon2_calibrate.proofs.search.most_passes.Goals.{then-trial-options, else-trial-options}

pub trials-preserved : goal.trials-preserved
trials-preserved g c =
    let (so, steady) = c.trials.invariant in
    let (memory, passes, took) = rw c.in-Some.is at c.in_ok-trial.ensures in
    let greatest = rw c.pass_time-pass_time.ensures at c.passes.ensures in
    let rises = c.if-next-best.false in
    elim c.if-trial-options.branch [
      | then-trial-options w ↦ rw (w.best-is, c.min-next.ensures, w.most-is) (
        IsTried-trial _ _ true (le-leb _ _ w.if-trial-options.true) so rises passes memory took greatest,
        λ quiet. (or_parts c.trials.busy c.in-Some.trial.busy quiet).1,
      )
      | else-trial-options w ↦ rw (w.best-is, c.min-next.ensures, w.most-is) (
        IsTried-trial _ _ false (lt-leb _ _ w.if-trial-options.false) so rises passes memory took greatest,
        λ quiet. steady (or_parts c.trials.busy c.in-Some.trial.busy quiet).0,
      )
    ]
