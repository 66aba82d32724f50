use Rattle.argon2_base.proofs.block_lemmas.LaneLemmas.{columns_from}
use Rattle.argon2_base.proofs.block.textbook.columns.Goals as goal

pub returns : goal.returns
returns c = columns_from c.args.x c.transpose.result c.transpose-2.result c.transpose.ensures c.transpose-2.ensures
