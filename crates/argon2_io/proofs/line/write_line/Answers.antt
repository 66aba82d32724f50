use Rattle.argon2_io.proofs.Prefixes.{prefix_of_longer, prefix_that_stays, text_and_prefix}
use Rattle.argon2_io.proofs.line.write_line.Goals as goal

pub returns-in_err-write_parts-clause-cut : goal.returns-in_err-write_parts-clause-cut
returns-in_err-write_parts-clause-cut g c = prefix_of_longer _ _ _ _ c.write_parts.ensures.cut

pub returns-in_err-write_bytes-clause-cut : goal.returns-in_err-write_bytes-clause-cut
returns-in_err-write_bytes-clause-cut g c =
    text_and_prefix _ _ _ _ _ (c.in_ok-write_parts.ensures.written) c.write_bytes.ensures.cut

pub returns-clause-cut : goal.returns-clause-cut
returns-clause-cut g c =
    text_and_prefix _ _ _ _ _ (c.in_ok-write_parts.ensures.written)
    (prefix_that_stays _ _ _ _ c.write_bytes.ensures.cut c.flush.ensures.bytes)
