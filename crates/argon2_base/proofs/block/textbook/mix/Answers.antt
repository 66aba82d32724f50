use Rattle.argon2_base.proofs.Imports.{◌∙◌, ap, arith, by_columns, by_rows, mixed, xor_blocks, words_in_eights}
use Rattle.argon2_base.proofs.block_lemmas.MixingLemmas.{kernel_mixes}
use Rattle.argon2_base.proofs.block.textbook.mix.Goals as goal

pub returns : goal.returns
unfolding mixed words_in_eights
returns c =
    kernel_mixes (words_in_eights c.exclusive_or-r.result) c.words.result c.rows.result c.perm-across.result
    c.columns.result c.perm-down.result
    (omega arith) (omega arith) c.rows.ensures c.perm-across.ensures c.columns.ensures c.perm-down.ensures c.words.ensures
    ∙ ap (λ r. xor_blocks (by_columns (by_rows r)) r) c.exclusive_or-r.ensures
