use Rattle.argon2_base.proofs.Imports.{compress, rounds}
use Rattle.argon2_base.proofs.blake2b.compression.compress.Goals as goal

pub returns : goal.returns
unfolding compress rounds
returns c =
    let v = c.rounds_0_to_3-v.ensures _ c.working_vector-v.ensures in
    let v = c.rounds_8_to_11-v.ensures _ (c.rounds_4_to_7-v.ensures _ v) in
    cc
