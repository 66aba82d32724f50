use Rattle.argon2.proofs.Imports.{address_block}
use Rattle.argon2.proofs.context.inputs.Context.address_block.Goals as goal

pub returns-clause-block : goal.returns-clause-block
unfolding address_block
returns-clause-block c =
    let input = c.block_of_words-input.ensures in
    let count = c.block_count.ensures.value in
    let passes = c.passes.ensures.value in
    let algorithm = c.algorithm_number.ensures in
    cc
