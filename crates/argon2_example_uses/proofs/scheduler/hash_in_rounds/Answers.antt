use Rattle.std.proofs.Common.{◌≡◌, length, refl, ap, ◌∙◌, add-one, arith}
use Rattle.argon2.specs.Argon2.{context_of}
use Rattle.argon2.specs.Block.{bytes_of}
use Rattle.argon2.specs.Hashing.{blocks_of}
use Rattle.argon2.specs.LongHash.{long_hash}
use Rattle.argon2.specs.Steps.{run, run_passes, run_slices, last_column}
use Rattle.argon2_example_uses.specs.Scheduler.{lanes_in_rounds}
use Rattle.argon2_example_uses.proofs.Rounds.{rounds_schedule}
use Rattle.argon2_example_uses.proofs.scheduler.hash_in_rounds.Goals as goal

pub loop-pass-init : goal.loop-pass-init
unfolding run_passes
loop-pass-init c = record { blocks = refl; rest = c.in_ok-begin_fill.ensures.begun.rest }

pub loop-slice-init : goal.loop-slice-init
unfolding run_slices
loop-slice-init c = record { blocks = refl; rest = c.loop-pass.invariant.rest }

pub loop-slice-preserved : goal.loop-slice-preserved
unfolding run_slices
loop-slice-preserved c =
    let ctx = context_of c.args.argon2.now in
    let pass = c.loop-pass.pass in
    let slice = c.loop-slice.slice in
    record {
      blocks = rw add-one (c.fill_slice.ensures.blocks
          ∙ ap (run ctx pass slice (lanes_in_rounds ctx pass slice)) c.loop-slice.invariant.blocks);
      rest = c.fill_slice.ensures.rest ∙ c.loop-slice.invariant.rest;
    }

pub loop-pass-preserved : goal.loop-pass-preserved
unfolding run_passes
loop-pass-preserved c =
    let ctx = context_of c.args.argon2.now in
    let pass = c.loop-pass.pass in
    let slices = run_slices ctx (lanes_in_rounds ctx pass) pass in
    let all : c.loop-slice.slice ≡ 4 = omega arith in
    record {
      blocks = rw add-one (c.loop-slice.invariant.blocks
          ∙ ap (λ n. run_slices ctx (lanes_in_rounds ctx pass) pass n (blocks_of ctx c.loop-pass.memory)) all
          ∙ ap (run_slices ctx (lanes_in_rounds ctx pass) pass 4) c.loop-pass.invariant.blocks);
      rest = c.loop-slice.invariant.rest;
    }

pub returns-clause-tag : goal.returns-clause-tag
returns-clause-tag c =
    let ctx = context_of c.args.argon2.now in
    let begun = blocks_of ctx c.begin_fill.new.memory in
    let n = length c.args.out.now in
    let passes = c.t_cost-pass-end.ensures.value ∙ ap (λ v. v.t_cost) c.params.ensures.value in
    let all : c.loop-pass.pass ≡ ctx.t_cost = omega arith in
    c.finish_fill.ensures
    ∙ ap (λ memory. long_hash n (bytes_of (last_column ctx memory)))
    (c.loop-pass.invariant.blocks ∙ ap (λ pass. run_passes ctx (lanes_in_rounds ctx) pass begun) all)
    ∙ c.slice_interleaving.ensures.tag ctx c.in_ok-begin_fill.ensures.begun.valid c.args.password.now c.args.salt.now n begun
    c.in_ok-begin_fill.ensures.begun.begins (lanes_in_rounds ctx) (λ pass slice _ _. rounds_schedule ctx pass slice)

pub returns-clause-rest : goal.returns-clause-rest
returns-clause-rest c = c.loop-pass.invariant.rest
