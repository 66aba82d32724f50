use Rattle.std.proofs.Common.{arith, below_more, ap, suc, ◌/◌, inl, inr}
use Rattle.argon2_calibrate.specs.Choice.{IsTooMuch, halved}
use Rattle.argon2_calibrate.proofs.search.most_memory.Goals.{in-Some+else-is_least+else-choice-options, in-None-2}
use Rattle.argon2_calibrate.proofs.search.most_memory.Goals as goal

pub halves-preserved : goal.halves-preserved
halves-preserved g c =
    let TooMuch = IsTooMuch (g.S.Stopwatch.may_take c.args.options.lanes) c.args.options in
    let (some, affordable, so) = c.halves.invariant in
    let too_much : TooMuch c.halves.m_cost = elim c.match-branch-2.branch [
      | in-Some+else-is_least+else-choice-options w ↦
          let measured = rw w.in-Some.is at c.in_ok-choice.ensures in
          inr (
            w.in-Some.choice,
            measured.0,
            rw (← c.least_passes-least.ensures.value) measured.1,
            measured.2,
            w.if-choice-options.false,
          )
      | in-None-2 w ↦ inl (rw (← c.least_passes-least.ensures.value) (rw w.in-None-2.is at c.in_ok-choice.ensures))
    ] in
    let here = rw so.1 at too_much in (
      omega arith,
      omega arith,
      (
        suc so.0,
        ap (λ k. k / 2) so.1,
        λ before lt. below_more (λ k. TooMuch (halved k c.args.options.most)) so.0 so.2 here before (omega arith),
      ),
    )
