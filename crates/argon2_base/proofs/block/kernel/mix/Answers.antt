use Rattle.argon2_base.proofs.Imports.{◌≡◌, ℕ, ◌<◌, ◌%◌, ◌∙◌, inl, inr, ap, arith, slice_index, if◌then◌else◌, cases_lt, by_columns, by_rows, mixed, xor_blocks, written}
use Rattle.std.proofs.Common.{bit_xor}
use Rattle.argon2_base.proofs.block_lemmas.MixingLemmas.{half_mixed, mixed_word, mixed_written}
use Rattle.argon2_base.proofs.block.kernel.mix.Goals as goal

pub returns : goal.returns
unfolding mixed
returns c x y is =
    let r = c.args.r.now in
    let old = c.args.out.now in
    let rows = c.rows_of.ensures in
    let across = c.rows-across.ensures in
    let word : (w : ℕ) → w < 128
    → slice_index c.put_columns-2.new.out w
    ≡ written c.args.xors (slice_index old w) (bit_xor (mixed_word r w) (slice_index r w)) =
    λ w below.
    elim (cases_lt (w % 16) 8) [
      | inl left ↦
          c.put_columns-2.ensures.others w (omega arith)
          ∙ c.put_columns.ensures.here w below (omega arith)
          ∙ ap (λ a. written c.args.xors (slice_index old w) (bit_xor a (slice_index r w)))
          (half_mixed r c.rows_of.result c.rows-across.result c.left_columns.result 0 rows across c.left_columns.ensures w
          below (omega arith))
      | inr right ↦
          let other = c.put_columns.ensures.others w (omega arith) in
          let mixed = half_mixed r c.rows_of.result c.rows-across.result c.right_columns.result 1 rows across
          c.right_columns.ensures w below (omega arith) in
          c.put_columns-2.ensures.here w below (omega arith)
          ∙ (λ p. written c.args.xors (other p) (bit_xor (mixed p) (slice_index r w)))
    ] in
    mixed_written c.args.xors r old c.put_columns-2.new.out (omega arith) (omega arith) c.put_columns-2.ensures.size word
    ∙ ap (λ r. let m = xor_blocks (by_columns (by_rows r)) r in if c.args.xors then xor_blocks old m else m) is
