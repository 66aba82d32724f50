use Rattle.argon2_base.proofs.Imports.{◌∙◌, arith, words_in_eights}
use Rattle.argon2_base.proofs.block_lemmas.LaneLemmas.{rows_from, half_row}
use Rattle.argon2_base.proofs.block.textbook.rows.Goals as goal

pub returns : goal.returns
returns c i h =
    let r = c.args.r.now in
    rows_from c.transpose.result c.transpose-2.result (words_in_eights r) i
    (λ k l. c.transpose.ensures k i l h ∙ half_row r i k 0 h l (omega arith))
    (λ k l. c.transpose-2.ensures k i l h ∙ half_row r i k 1 h l (omega arith))
