use Rattle.argon2_base.proofs.Imports.{◌≡◌, ℕ, ◌-◌, ◌*◌, ◌/◌, ◌%◌, ◌<◌, ◌≤◌, length, slice_index, half_word, written}
use Rattle.std.proofs.Common.{bit_xor}
use Rattle.argon2_base.proofs.block.kernel.put_columns.Given as goal

abbrev pub invariant-vectors : goal.invariant-vectors
invariant-vectors l = record {
  long : length l.out ≡ 128;
  done : (w : ℕ) → w < 32 * l.i → w % 16 / 8 ≡ l.h → slice_index l.out w
      ≡ written l.xors (slice_index l.fn.out w) (bit_xor (half_word l.v w) (slice_index l.r w));
  left : (w : ℕ) → 32 * l.i ≤ w → slice_index l.out w ≡ slice_index l.fn.out w;
  others : (w : ℕ) → w % 16 / 8 ≡ 1 - l.h → slice_index l.out w ≡ slice_index l.fn.out w;
}
