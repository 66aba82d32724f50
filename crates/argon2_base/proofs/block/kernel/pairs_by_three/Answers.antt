use Rattle.argon2_base.proofs.Imports.{◌+◌, ◌*◌, ◌/◌, ◌%◌, arith}
use Rattle.argon2_base.proofs.block_lemmas.ChainLemmas.{moved_lane}
use Rattle.argon2_base.proofs.block.kernel.pairs_by_three.Goals as goal

pub returns : goal.returns
returns c i hi k hk =
    moved_lane (λ m. 8 * ((2 * (m / 8) + m % 2 + 3) % 4 / 2) + 2 * (m / 2 % 4) + (m + 3) % 2) c.args.x c.fits-x.0
    (8 * (k / 2) + 2 * i + k % 2) _
    (omega arith) (omega arith) (omega arith)
