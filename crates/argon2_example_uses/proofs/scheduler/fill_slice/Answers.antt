use Rattle.std.proofs.Common.{◌≡◌, ◌+◌, ◌-◌, ◌*◌, sym, ap, ◌∙◌, arith}
use Rattle.argon2.proofs.recurrence.Validity.{sizes-valid}
use Rattle.argon2.specs.Argon2.{context_of}
use Rattle.argon2.specs.Rfc9106.{segment_length_for, segment_length}
use Rattle.argon2.specs.Hashing.{blocks_of}
use Rattle.argon2.specs.Steps.{run, step}
use Rattle.argon2_example_uses.proofs.Rounds.{left, run_turn, run_begin, run_end, run_no_round, column_below, column_late}
use Rattle.argon2_example_uses.proofs.scheduler.fill_slice.Goals as goal
use Rattle.argon2_example_uses.proofs.scheduler.fill_slice.Goals.{then-pass-eq0+then-slice-eq0, else-pass-eq0, else-pass-eq0-via-then-pass-eq0+else-slice-eq0, else-pass-eq0-via-else-pass-eq0}

pub loop-lane-init : goal.loop-lane-init
loop-lane-init c =
    let ctx = context_of c.args.argon2.now in
    let columns = c.segment_length-segment.ensures.value
    ∙ ap (λ v. segment_length_for v.m_cost v.p_cost) c.params-params.ensures.value in
    record {
      turns = sym (run_begin ctx c.args.pass c.args.slice c.loop-index.index (blocks_of ctx c.loop-index.memory) (omega arith))
          ∙ c.loop-index.invariant.rounds;
      rest = c.loop-index.invariant.rest;
    }

pub step_block-requires-clause-step : goal.step_block-requires-clause-step
step_block-requires-clause-step c =
    let ctx = context_of c.args.argon2.now in
    let s = segment_length ctx in
    let i = c.loop-index.index in
    let sizes = sizes-valid ctx c.requires.valid in
    let columns = c.segment_length-segment.ensures.value
    ∙ ap (λ v. segment_length_for v.m_cost v.p_cost) c.params-params.ensures.value in
    let lanes = c.p_cost-lane-end.ensures.value ∙ ap (λ v. v.p_cost) c.params-params.ensures.value in
    let product = ap (λ x. c.args.slice * x) columns in
    let below = column_below c.args.slice s i (omega arith) (omega arith) in
    record {
      in_lanes = omega arith;
      in_columns = omega arith;
      later = λ e.
          let late = column_late c.args.slice s i c.if-pass-eq0.first sizes.two_columns (omega arith)
          (elim c.if-pass-eq0.branch [
            | then-pass-eq0+then-slice-eq0 w ↦ (λ none. w.first-is)
            | else-pass-eq0 w ↦ (λ none. elim w.else-pass-eq0.branch [
              | else-pass-eq0-via-then-pass-eq0+else-slice-eq0 v ↦ absurd (v.if-slice-eq0.false none)
              | else-pass-eq0-via-else-pass-eq0 v ↦ absurd (v.if-pass-eq0.false e)
            ])
          ]) in
          omega arith;
    }

pub loop-lane-preserved : goal.loop-lane-preserved
loop-lane-preserved c =
    let ctx = context_of c.args.argon2.now in
    let s = segment_length ctx in
    let i = c.loop-index.index in
    let lane = c.loop-lane.lane in
    let memory = blocks_of ctx c.loop-lane.memory in
    let columns = c.segment_length-segment.ensures.value
    ∙ ap (λ v. segment_length_for v.m_cost v.p_cost) c.params-params.ensures.value in
    let lanes = c.p_cost-lane-end.ensures.value ∙ ap (λ v. v.p_cost) c.params-params.ensures.value in
    let stepped = c.step_block.ensures.step ∙ ap (λ x. step ctx memory c.args.pass lane (c.args.slice * x + i)) columns in
    record {
      turns = ap (run ctx c.args.pass c.args.slice (left ctx (lane + 1) (s - (i + 1)))) stepped
          ∙ sym (run_turn ctx c.args.pass c.args.slice lane i memory (omega arith) (omega arith))
          ∙ c.loop-lane.invariant.turns;
      rest = c.step_block.ensures.rest ∙ c.loop-lane.invariant.rest;
    }

pub loop-index-preserved : goal.loop-index-preserved
loop-index-preserved c =
    let ctx = context_of c.args.argon2.now in
    let n = segment_length ctx - (c.loop-index.index + 1) in
    let memory = blocks_of ctx c.loop-lane.memory in
    let lanes = c.p_cost-lane-end.ensures.value ∙ ap (λ v. v.p_cost) c.params-params.ensures.value in
    let all : ctx.p_cost ≡ c.loop-lane.lane = omega arith in
    record {
      rounds = sym (run_end ctx c.args.pass c.args.slice n memory)
          ∙ ap (λ lane. run ctx c.args.pass c.args.slice (left ctx lane n) memory) all ∙ c.loop-lane.invariant.turns;
      rest = c.loop-lane.invariant.rest;
    }

pub returns-clause-blocks : goal.returns-clause-blocks
returns-clause-blocks c =
    let ctx = context_of c.args.argon2.now in
    let columns = c.segment_length-segment.ensures.value
    ∙ ap (λ v. segment_length_for v.m_cost v.p_cost) c.params-params.ensures.value in
    sym (run_no_round ctx c.args.pass c.args.slice c.loop-index.index (blocks_of ctx c.loop-index.memory) (omega arith))
    ∙ c.loop-index.invariant.rounds
