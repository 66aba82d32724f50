use Rattle.argon2_rows.proofs.Imports.{[], ◌∷◌}
use Rattle.std.proofs.Common.{append_assoc}
use Rattle.argon2_io.proofs.Prefixes.{prefix_of_longer, text_and_prefix}
use Rattle.argon2_rows.proofs.lines.write_texts.Goals as goal

pub returns-in-Export-clause-cut : goal.returns-in-Export-clause-cut
returns-in-Export-clause-cut g c =
    rw (c.in-Export.is, append_assoc c.args.name.now (58 ∷ c.args.text.now) (10 ∷ []))
    (rw c.as_bytes.ensures.value at c.write_parts.ensures.cut)

pub returns-in_err-write_name-clause-cut : goal.returns-in_err-write_name-clause-cut
returns-in_err-write_name-clause-cut g c = rw c.in_default.is (prefix_of_longer _ _ _ _ c.write_name.ensures.cut)

pub returns-clause-cut : goal.returns-clause-cut
returns-clause-cut g c =
    rw c.in_default.is (text_and_prefix _ _ _ _ _ c.in_ok-write_name.ensures.written c.write_bytes.ensures.cut)
