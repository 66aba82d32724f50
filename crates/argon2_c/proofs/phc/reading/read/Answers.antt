use Rattle.std.proofs.Common.{sym, subst}
use Rattle.std.specs.Str.{IsUtf8}
use Rattle.argon2_base.proofs.phc_lemmas.PhcUtf8.{text_is_utf8}
use Rattle.argon2_c.proofs.phc.reading.read.Goals as goal

pub returns-in_default-clause-only : goal.returns-in_default-clause-only
returns-in_default-clause-only c = λ v says.
    absurd (c.in_default.ensures.cases.0 (subst IsUtf8 (sym says.1) (text_is_utf8 v says.0)))
