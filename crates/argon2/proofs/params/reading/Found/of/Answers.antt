use Rattle.argon2.proofs.Imports.{◌∙◌}
use Rattle.argon2.proofs.params_lemmas.ListReading.{nothing_read, one_more, item_refused, passed_on}
use Rattle.argon2.proofs.params.reading.Found.of.Goals as goal

pub loop-name-init : goal.loop-name-init
loop-name-init c =
    rw (c.into_iter-name-iterator.ensures.into_iter_gives, c.iter-name-items.ensures.value)
    (tt, tt, nothing_read c.args.list.now c.iter-name-items.ensures.params)

pub loop-name-preserved : goal.loop-name-preserved
loop-name-preserved c = (
  tt,
  tt,
  one_more c.args.list.now c.next.new.self (c.as_str.result.now, c.in-Some.value) _ _
      (rw (c.in-Some.ensures.steps, ← c.as_str.ensures.value) at c.loop-name.invariant.2) c.in_ok-take.ensures,
)

pub returns-in_err-take : goal.returns-in_err-take
returns-in_err-take c =
    passed_on _ c.from_residual.result _ c.from_residual.ensures
    ∙ item_refused c.args.list.now c.next.new.self (c.as_str.result.now, c.in-Some.value) _ _
    (rw (c.in-Some.ensures.steps, ← c.as_str.ensures.value) at c.loop-name.invariant.2) c.in_err-take.ensures
