use Rattle.argon2_base.proofs.Imports.{lit<}
use Rattle.argon2_base.proofs.block_lemmas.LaneLemmas.{below_eight}
use Rattle.argon2_base.proofs.block.kernel.rows.Goals as goal

pub returns : goal.returns
returns c =
    let left = c.four_rows.ensures in
    let right = c.four_rows-2.ensures in
    below_eight _ (left 0 (lit< tt)) (left 1 (lit< tt)) (left 2 (lit< tt)) (left 3 (lit< tt))
    (right 0 (lit< tt)) (right 1 (lit< tt)) (right 2 (lit< tt)) (right 3 (lit< tt))
