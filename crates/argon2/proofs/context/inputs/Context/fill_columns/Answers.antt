use Rattle.argon2.proofs.Imports.{◌≡◌, ◌+◌, ◌-◌, ◌*◌, ◌/◌, ◌∙◌, arith, segment_length, columns_before, segment_calls}
use Rattle.argon2.proofs.context_lemmas.InOrder.{filled_step}
use Rattle.argon2.proofs.context_lemmas.SegmentColumns.{a_column, a_step, first_mixings, same_addresses, same_mixings}
use Rattle.argon2.proofs.context.inputs.Context.fill_columns.Goals as goal

pub loop-index-init : goal.loop-index-init
loop-index-init g c =
    let ctx = c.args.self.now in
    let start = c.first_index-start.ensures in
    let turns = start.turns in
    let few = start.few in
    let begins : columns_before ctx c.args.pass c.args.slice ≡ c.args.slice * segment_length ctx + c.first_index-start.result =
    omega arith in
    let serves : 0 / 128 ≡ (c.first_index-start.result - 1) / 128 = omega arith in
    let mixings = same_mixings ctx c.args.pass c.args.slice 0 (c.first_index-start.result - 1) serves in
    record {
      filled = λ first old is. rw (← begins) is;
      addresses = c.addresses-addresses.ensures.block ∙ same_addresses ctx c.args.pass c.args.lane c.args.slice _ _ serves;
      watched = grind (arith, c.addresses-addresses.ensures.work, first_mixings, mixings);
    }

pub loop-index-preserved : goal.loop-index-preserved
loop-index-preserved g c =
    let ctx = c.args.self.now in
    let i = c.loop-index.index in
    let n = segment_length ctx in
    let before = c.loop-index.invariant in
    let column = c.args.slice * n + i in
    let end : column + 1 ≡ c.args.slice * n + (i + 1) = omega arith in
    let same : i ≡ i + 1 - 1 = omega arith in
    let st = a_step ctx c.segment_length-segment.ensures.sizes
    (record { pass = c.args.pass; lane = c.args.lane; slice = c.args.slice; index = i }) c.requires.in_lanes
    c.requires.in_slices (rw c.segment_length-segment.ensures.value at c.loop-index-test.true)
    (λ first. let two = c.first_index-start.ensures.later first in omega arith) in
    rw (← same) (record {
      filled = λ first old is.
          rw (c.put.ensures.place, c.position.ensures, c.step-reference.ensures.place, c.step-reference.ensures.step, ← end)
          (filled_step ctx st.sizes first c.args.pass c.args.slice c.args.lane column _ old _
          c.requires.in_passes st.step (a_column ctx _ st) (before.filled first old is));
      addresses = c.renew.ensures.block;
      watched = grind (arith, before.watched, c.renew.ensures.work, c.step-reference.ensures.work, c.put.ensures.watched);
    })

pub returns-clause-filled : goal.returns-clause-filled
returns-clause-filled g c =
    let turns = c.first_index-start.ensures.turns in
    let s = c.segment_length-segment.ensures.value in
    let end : c.args.slice * segment_length c.args.self.now + c.loop-index.index
    ≡ (c.args.slice + 1) * segment_length c.args.self.now = omega arith in
    rw end at c.loop-index.invariant.filled

pub returns-clause-watched : goal.returns-clause-watched
unfolding segment_calls
returns-clause-watched g c =
    let turns = c.first_index-start.ensures.turns in
    let s = c.segment_length-segment.ensures.value in
    let end : c.loop-index.index ≡ segment_length c.args.self.now = omega arith in
    grind (arith, rw end at c.loop-index.invariant.watched)
