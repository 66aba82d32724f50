use Rattle.argon2_base.proofs.Imports.{◌*◌, ◌+◌, ◌∙◌, inl, inr, sym, ap, arith, cases_lt, words_in_eights}
use Rattle.std.proofs.Common.{bit_xor}
use Rattle.argon2_base.proofs.block_lemmas.LaneLemmas.{word_in_eights}
use Rattle.argon2_base.proofs.block_lemmas.MixingLemmas.{row_stored}
use Rattle.argon2_base.proofs.block.textbook.words.Goals as goal

pub rows-preserved : goal.rows-preserved
rows-preserved c w h =
    let r = c.args.r.now in
    let i = c.rows.i in
    elim (cases_lt w (16 * i)) [
      | inl before ↦ c.store_row.ensures.below w before ∙ c.rows.invariant w before
      | inr here ↦
          row_stored c.args.columns.now (words_in_eights r) c.store_row.new.out i
          (λ k l. c.store_row.ensures.left k l
          ∙ ap (bit_xor _) (sym (word_in_eights r (2 * i) k (16 * i + k) (omega arith) l (omega arith))))
          (λ k l. c.store_row.ensures.right k l
          ∙ ap (bit_xor _) (sym (word_in_eights r (2 * i + 1) k (16 * i + 8 + k) (omega arith) l (omega arith))))
          w here h
    ]
