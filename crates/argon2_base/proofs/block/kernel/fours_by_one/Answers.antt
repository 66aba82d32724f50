use Rattle.argon2_base.proofs.Imports.{◌+◌, ◌*◌, ◌/◌, ◌%◌, arith}
use Rattle.argon2_base.proofs.block_lemmas.ChainLemmas.{moved_lane}
use Rattle.argon2_base.proofs.block.kernel.fours_by_one.Goals as goal

pub returns : goal.returns
returns c i hi k hk =
    moved_lane (λ m. 4 * (m / 4) + (m + 1) % 4) c.args.x c.fits-x.0 (4 * i + k) _
    (omega arith) (omega arith) (omega arith)
