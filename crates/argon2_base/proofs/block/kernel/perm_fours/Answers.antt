use Rattle.argon2_base.proofs.Imports.{◌+◌, ◌*◌, arith}
use Rattle.argon2_base.proofs.block_lemmas.ChainLemmas.{group_permuted}
use Rattle.argon2_base.proofs.block.kernel.perm_fours.Goals as goal

pub returns : goal.returns
returns c i h =
    group_permuted (λ k. 4 * i + k) c.args.v _ _ _ _ _ _ _ _ _ _ _ _ _ _
    (λ k l. c.gb.ensures _ (omega arith)) (c.fours_by_three.ensures i h) (c.fours_by_one.ensures i h) (c.fours_by_two.ensures i h)
    (λ k l. c.gb-2.ensures _ (omega arith)) (c.fours_by_one-2.ensures i h) (c.fours_by_three-2.ensures i h)
    (c.fours_by_two-2.ensures i h)
