use Rattle.std.proofs.Common.{◌≡◌, take, arith}
use Rattle.std.proofs.lemmas.List.{take_all}
use Rattle.argon2_io.proofs.Prefixes.{prefix_of_each, whole_is_prefix}
use Rattle.argon2_io.proofs.line.write_parts.Goals as goal

pub returns-in_err-write_bytes-clause-cut : goal.returns-in_err-write_bytes-clause-cut
returns-in_err-write_bytes-clause-cut g c =
    prefix_of_each _ _ c.parts.part-index _ _ _ _ c.parts-test.true c.parts.invariant c.write_bytes.ensures.cut

pub returns-clause-cut : goal.returns-clause-cut
returns-clause-cut g c =
    let all : take c.parts.part-index c.args.parts.now ≡ c.args.parts.now = take_all _ c.args.parts.now (omega arith) in
    whole_is_prefix _ _ _ (rw all at c.parts.invariant)
