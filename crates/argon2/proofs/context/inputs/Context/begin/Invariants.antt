use Rattle.argon2.proofs.Imports.{◌≡◌, ℕ, ◌+◌, ◌*◌, ◌<◌, ◌≤◌, [], map, slice_index_or, block_after}
use Rattle.argon2.proofs.context.inputs.Context.begin.Given as goal

abbrev pub invariant-loop-lane : goal.invariant-loop-lane
invariant-loop-lane g l =
    let words = map g.B.MemoryBlock.words in
    record {
      begun : (k c : ℕ) → k < l.lane → c < 2 → slice_index_or (words l.blocks) (k * l.width + c) [] ≡ block_after l.hash k c;
      others : (k c : ℕ) → k < l.self.p_cost → 2 ≤ c → c < l.width
          → slice_index_or (words l.blocks) (k * l.width + c) [] ≡ slice_index_or (words l.fn.blocks) (k * l.width + c) [];
    }
