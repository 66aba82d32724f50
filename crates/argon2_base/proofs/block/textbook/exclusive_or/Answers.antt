use Rattle.argon2_base.proofs.Imports.{◌∙◌, arith, length-zip2, xor_blocks}
use Rattle.std.proofs.Common.{bit_xor}
use Rattle.argon2_base.proofs.block_lemmas.LaneLemmas.{below_sixteen, in_eights}
use Rattle.argon2_base.proofs.block.textbook.exclusive_or.Goals as goal

pub returns : goal.returns
unfolding xor_blocks
returns c =
    let x = c.args.x.now in
    let y = c.args.y.now in
    in_eights _ (xor_blocks x y) (length-zip2 bit_xor x y (omega arith) ∙ (omega arith))
    (below_sixteen _ c.load_xor.ensures c.load_xor-2.ensures c.load_xor-3.ensures c.load_xor-4.ensures
    c.load_xor-5.ensures c.load_xor-6.ensures c.load_xor-7.ensures c.load_xor-8.ensures
    c.load_xor-9.ensures c.load_xor-10.ensures c.load_xor-11.ensures c.load_xor-12.ensures
    c.load_xor-13.ensures c.load_xor-14.ensures c.load_xor-15.ensures c.load_xor-16.ensures)
