use Rattle.argon2.proofs.Imports.{◌≡◌, ◌+◌, ◌-◌, ◌*◌, ◌/◌, refl, ◌∙◌, arith, nat_tests, segment_length, columns_before}
use Rattle.argon2.proofs.context_lemmas.Filling.{HasBlocksUpTo-like}
use Rattle.argon2.proofs.context_lemmas.SegmentColumns.{a_column, a_step, in_lane, same_addresses}
use Rattle.argon2.proofs.context_lemmas.SegmentParts.{ahead_step}
use Rattle.argon2.proofs.context.inputs.Context.fill_own.Goals as goal

pub loop-index-init : goal.loop-index-init
loop-index-init c =
    let ctx = c.args.self.now in
    let start = c.first_index-start.ensures in
    let turns = start.turns in
    let few = start.few in
    let begins : columns_before ctx c.args.at.pass c.args.at.slice
    ≡ c.args.at.slice * segment_length ctx + c.first_index-start.result =
    omega arith in
    let serves : 0 / 128 ≡ (c.first_index-start.result - 1) / 128 = omega arith in
    record {
      size = refl;
      filled = λ first memory parts is.
          let like = HasBlocksUpTo-like ctx first c.args.at.pass _ _ memory (λ l _. grind (arith, nat_tests)) in
          (memory, (parts, rw (← begins) (like is)));
      addresses = c.addresses-addresses.ensures.block
          ∙ same_addresses ctx c.args.at.pass c.args.at.lane c.args.at.slice _ _ serves;
    }

pub loop-index-preserved : goal.loop-index-preserved
loop-index-preserved c =
    let ctx = c.args.self.now in
    let pass = c.args.at.pass in
    let slice = c.args.at.slice in
    let lane = c.args.at.lane in
    let i = c.loop-index.index in
    let n = segment_length ctx in
    let before = c.loop-index.invariant in
    let column = slice * n + i in
    let end : column + 1 ≡ slice * n + (i + 1) = omega arith in
    let same : i ≡ i + 1 - 1 = omega arith in
    let st = a_step ctx c.segment_length-segment.ensures.sizes
    (record { pass = pass; lane = lane; slice = slice; index = i }) c.requires.in_lanes c.requires.in_slices
    (rw c.segment_length-segment.ensures.value at c.loop-index-test.true)
    (λ first. let two = c.first_index-start.ensures.later first in omega arith) in
    rw (← same) (record {
      size = c.step_own.ensures.size ∙ before.size;
      filled = λ first memory parts is.
          let m = before.filled first memory parts is in
          let ahead = ahead_step ctx st.sizes first pass slice lane column m.0 st.step (a_column ctx _ st) m.1.1 in
          (_, (c.step_own.ensures.step m.0 m.1.1.size m.1.0, rw (← end) ahead));
      addresses = c.renew.ensures.block;
    })

pub returns : goal.returns
returns c =
    let last = c.loop-index.invariant in
    record {
      size = last.size;
      made = λ first memory parts is i lt.
          let m = last.filled first memory parts is in
          let turns = c.first_index-start.ensures.turns in
          let s = segment_length c.args.self.now in
          let fits = in_lane s c.args.at.slice i c.requires.in_slices lt in
          grind (arith, nat_tests, m.1.0.in_own i, m.1.1.new c.args.at.lane (c.args.at.slice * s + i));
    }
