use Rattle.argon2_base.proofs.Imports.{arith, take_all, words_of}
use Rattle.argon2_base.proofs.block.Block.load.Goals as goal

pub returns : goal.returns
unfolding words_of
returns c = grind (arith, take_all, c.told-input)
