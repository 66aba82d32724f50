use Rattle.argon2_base.proofs.Imports.{get_or-chunk}
use Rattle.argon2_base.proofs.block.kernel.load_row.Goals as goal

pub returns : goal.returns
returns c k h = get_or-chunk c.args.at 16 c.args.words.now k 0 h
