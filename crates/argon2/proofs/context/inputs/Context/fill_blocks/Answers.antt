use Rattle.argon2.proofs.Imports.{◌≡◌, drop, map, take, ap, ◌∙◌, add-one, arith, nat_tests, rules, length-map, length-take-le, block_count, first_block, matrix_of, blocks_of, slices_calls}
use Rattle.argon2.proofs.LentMemory.{has_matrix, lanes_begin, words_behind}
use Rattle.argon2.proofs.context_lemmas.Counts.{calls_before-few, passes_calls, passes_calls-all}
use Rattle.argon2.proofs.context_lemmas.InOrder.{filled_first, filled_last, filled_next, IsFilledUpTo-like}
use Rattle.argon2.proofs.context.inputs.Context.fill_blocks.Goals as goal

pub loop-pass-init : goal.loop-pass-init
unfolding passes_calls
loop-pass-init g c =
    let ctx = c.args.self.now in
    let words = g.B.MemoryBlock.words in
    let old = c.args.memory.now in
    let count = c.block_count.result in
    let first = first_block ctx c.args.pwd.now c.args.salt.now c.args.out_len in
    let size = length-map (take count old) words ∙ length-take-le count old (search rules) ∙ c.block_count.ensures.value in
    let begins = lanes_begin ctx c.lane_length.result c.lane_length.ensures.value first _ _ size c.begin.ensures in
    record { filled = filled_first ctx c.passes-pass-end.ensures.sizes first _ _ begins; watched = grind arith }

pub loop-lane-init : goal.loop-lane-init
loop-lane-init g c = record {
  filled = IsFilledUpTo-like _ _ _ _ _ _ _ _ (λ l _. grind (arith, nat_tests)) c.loop-slice.invariant.filled;
  watched = grind (arith, c.loop-slice.invariant.watched);
}

pub fill_columns-requires-clause-count : goal.fill_columns-requires-clause-count
fill_columns-requires-clause-count g c =
    let few = calls_before-few c.args.self.now c.passes-pass-end.ensures.sizes c.loop-pass.pass c.loop-slice.slice
    c.loop-lane.lane
    (omega arith) (omega arith) (omega arith) in
    omega (arith, few, c.loop-lane.invariant.watched.count)

pub loop-lane-preserved : goal.loop-lane-preserved
loop-lane-preserved g c = record {
  filled = IsFilledUpTo-like _ _ _ _ _ _ _ _ (λ l _. grind (arith, nat_tests))
      (c.fill_columns.ensures.filled _ _ c.loop-lane.invariant.filled);
  watched = grind (arith, c.fill_columns.ensures.watched, c.loop-lane.invariant.watched);
}

pub loop-slice-preserved : goal.loop-slice-preserved
unfolding slices_calls
loop-slice-preserved g c =
    let all : c.loop-lane.lane ≡ c.args.self.now.p_cost = omega arith in
    let last = rw all at c.loop-lane.invariant.watched in
    record {
      filled = IsFilledUpTo-like _ _ _ _ _ _ _ _ (λ l below. grind (arith, nat_tests)) c.loop-lane.invariant.filled;
      watched = rw add-one (grind (arith, last));
    }

pub loop-pass-preserved : goal.loop-pass-preserved
unfolding passes_calls
loop-pass-preserved g c =
    let all : c.loop-slice.slice ≡ 4 = omega arith in
    let last = rw all at c.loop-slice.invariant in
    record { filled = filled_next _ _ _ _ _ _ last.filled; watched = rw add-one last.watched }

pub returns-clause-filled : goal.returns-clause-filled
unfolding matrix_of
returns-clause-filled g c =
    let ctx = c.args.self.now in
    let words = g.B.MemoryBlock.words in
    let old = c.args.memory.now in
    let new = c.loop-pass.blocks in
    let count = c.block_count.result in
    let sizes = c.block_count.ensures.sizes in
    let filled = filled_last ctx sizes _ _ _ _ _ (omega arith) c.loop-pass.invariant.filled in
    let left = has_matrix ctx count c.block_count.ensures.value (map words old) (map words new)
    c.args.pwd.now c.args.salt.now c.args.out_len filled.matrix in
    let behind = words_behind words new old count in
    record {
      sizes = sizes;
      matrix = ap (blocks_of ctx) behind ∙ left.0;
      positions = filled.positions;
      rest = ap (drop (block_count ctx)) behind ∙ left.1;
    }

pub returns-clause-watched : goal.returns-clause-watched
returns-clause-watched g c =
    let all : c.loop-pass.pass ≡ c.args.self.now.t_cost = omega arith in
    let count = ap (passes_calls c.args.self.now) all ∙ passes_calls-all c.args.self.now c.passes-pass-end.ensures.sizes in
    rw count at c.loop-pass.invariant.watched
