use Rattle.argon2_base.proofs.Imports.{◌≡◌, ℕ, ◌<◌, ◌≤◌, length, slice_index}
use Rattle.std.proofs.Common.{bit_xor}
use Rattle.argon2_base.proofs.block.xor_words.Given as goal

abbrev pub invariant-words : goal.invariant-words
invariant-words l = record {
  long : length l.x ≡ 128;
  done : (k : ℕ) → k < l.w → slice_index l.x k ≡ bit_xor (slice_index l.fn.x k) (slice_index l.y k);
  left : (k : ℕ) → l.w ≤ k → slice_index l.x k ≡ slice_index l.fn.x k;
}
