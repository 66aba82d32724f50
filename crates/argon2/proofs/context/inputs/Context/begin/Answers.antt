use Rattle.argon2.proofs.Imports.{◌≡◌, ◌+◌, ◌*◌, ◌<◌, ℕ, length, map, ap, sym, common_steps, rules, ◌∙◌, arith, slice_set, length-map, map-set, same_from_place, block_after, first_block}
use Rattle.argon2.proofs.context_lemmas.InMemory.{lane_within}
use Rattle.argon2.proofs.context.inputs.Context.begin.Goals as goal

pub offset_bounds-blocks-first-in-loop-lane : goal.offset_bounds-blocks-first-in-loop-lane
offset_bounds-blocks-first-in-loop-lane g c =
    let n = c.loop-lane.lane in
    let end = lane_within n c.args.width c.args.self.now.p_cost (omega arith) in
    let room : n * c.args.width + 1 < length c.loop-lane.blocks = omega arith in
    search rules

pub loop-lane-preserved : goal.loop-lane-preserved
loop-lane-preserved g c =
    let f = g.B.MemoryBlock.words in
    let width = c.args.width in
    let n = c.loop-lane.lane in
    let m = c.loop-lane.blocks in
    let before = c.loop-lane.invariant in
    let end = lane_within n width c.args.self.now.p_cost (omega arith) in
    let two = c.requires.two in
    let size = c.loop-lane.auto.blocks ∙ c.requires.size in
    let room : n * width + 1 < length (map f m) = omega (arith, length-map m f) in
    let block = c.of.ensures ∙ c.block_after.ensures in
    let block' = c.of-in-loop-lane.ensures ∙ c.block_after-in-loop-lane.ensures in
    let front = slice_set m (n * width) c.of.result in
    let first = λ (k d : ℕ). same_from_place k d n 0 width in
    let second = λ (k d : ℕ). same_from_place k d n 1 width in
    rw (map-set f front (n * width + 1) c.of-in-loop-lane.result, map-set f m (n * width) c.of.result) (record {
      begun = λ k d low small. grind (arith, common_steps, first k d, second k d, before.begun k d);
      others = λ k d h low high. grind (arith, common_steps, first k d, second k d, before.others k d);
    })

pub returns : goal.returns
unfolding first_block
returns g c =
    let f = g.B.MemoryBlock.words in
    let done : c.loop-lane.lane ≡ c.args.self.now.p_cost = omega arith in
    record {
      sizes = c.lanes-lane-end.ensures.sizes;
      size = length-map c.loop-lane.blocks f ∙ c.loop-lane.auto.blocks ∙ sym (length-map c.args.blocks.now f);
      columns = λ lane column l low. c.loop-lane.invariant.begun lane column (omega arith) low
          ∙ ap (λ hash. block_after hash lane column) c.initial_hash-hash.ensures;
      others = c.loop-lane.invariant.others;
    }
