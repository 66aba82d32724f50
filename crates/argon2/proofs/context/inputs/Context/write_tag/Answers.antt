use Rattle.argon2.proofs.Imports.{◌≡◌, ℕ, ◌+◌, ◌-◌, ◌*◌, List, [], map, arith, rules, slice_index_or, range_with_len, map-range_with_len_more, fold_push, xor_blocks, zero_block, xor_lanes}
use Rattle.argon2.proofs.context_lemmas.InMemory.{words_read}
use Rattle.argon2.proofs.context.inputs.Context.write_tag.Goals as goal

pub loop-lane-preserved : goal.loop-lane-preserved
loop-lane-preserved g c =
    let f = g.B.MemoryBlock.words in
    let n = c.loop-lane.lane in
    let width = c.args.width in
    let blocks = c.args.blocks.now in
    let at : ℕ → List ℕ = λ lane. slice_index_or (map f blocks) (lane * width + (width - 1)) [] in
    let more = map-range_with_len_more at 0 n n (omega arith) in
    let push = fold_push xor_blocks zero_block (map at (range_with_len 0 n)) (at n) in
    let before = c.loop-lane.invariant in
    let xored = c.xor.ensures in
    let read = words_read f blocks (n * width + (width - 1)) c.index-blocks-place.result (search rules) c.index-blocks-place.is in
    cc

pub returns : goal.returns
unfolding xor_lanes
returns g c =
    let words = map g.B.MemoryBlock.words c.args.blocks.now in
    let width = c.args.width in
    let done : c.loop-lane.lane ≡ c.args.self.now.p_cost = omega arith in
    let last : c.block.result ≡ xor_lanes c.args.self.now (λ lane. slice_index_or words (lane * width + (width - 1)) []) =
    (let all = c.loop-lane.invariant in let block = c.block.ensures in cc) in
    rw (← last) (search rules)
