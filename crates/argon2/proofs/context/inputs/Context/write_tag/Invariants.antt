use Rattle.argon2.proofs.Imports.{◌≡◌, ℕ, ◌+◌, ◌-◌, ◌*◌, [], map, fold, slice_index_or, range_with_len, xor_blocks, zero_block}
use Rattle.argon2.proofs.context.inputs.Context.write_tag.Given as goal

-- the lanes so far
abbrev pub invariant-loop-lane : goal.invariant-loop-lane
invariant-loop-lane g l =
    let words = g.B.MemoryBlock.words in
    words l.all ≡ fold xor_blocks zero_block
    (map (λ (lane : ℕ). slice_index_or (map words l.blocks) (lane * l.width + (l.width - 1)) []) (range_with_len 0 l.lane))
