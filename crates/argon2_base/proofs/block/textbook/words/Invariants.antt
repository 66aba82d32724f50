use Rattle.argon2_base.proofs.Imports.{◌≡◌, ℕ, ◌+◌, ◌*◌, ◌/◌, ◌%◌, ◌<◌, slice_index, lane_word, words_in_eights}
use Rattle.std.proofs.Common.{bit_xor}
use Rattle.argon2_base.proofs.block.textbook.words.Given as goal

abbrev pub invariant-rows : goal.invariant-rows
invariant-rows l = (w : ℕ) → w < 16 * l.i
    → slice_index l.out w ≡ bit_xor (lane_word l.columns (2 * (w / 16) + w % 2) (w % 16 / 2))
    (slice_index (words_in_eights l.r) w)
