use Rattle.argon2_base.proofs.Imports.{◌≡◌, ℕ, ◌<◌, ◌+◌, length, slice_index}
use Rattle.std.proofs.Common.{bit_xor}
use Rattle.argon2_base.proofs.blake2b.compression.xor_halves.Given as goal

abbrev pub invariant-words : goal.invariant-words
invariant-words l = record {
  long : length l.out ≡ 8;
  done : (k : ℕ) → k < l.i → slice_index l.out k
      ≡ bit_xor (bit_xor (slice_index l.h k) (slice_index l.v k)) (slice_index l.v (k + 8));
}
