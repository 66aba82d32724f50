use Rattle.std.proofs.Common.{rules, tests}
use Rattle.std.specs.Char.{is_control}
use Rattle.std.proofs.lemmas.Iterator.{YieldsList-from_chars}
use Rattle.std.proofs.lemmas.Iterator.Search.{any_from_yields_List}
use Rattle.argon2_passwd.proofs.entries.has_control.Goals as goal

pub returns : goal.returns
returns c =
    any_from_yields_List is_control _ _ c.any.result c.any.ensures.ran (YieldsList-from_chars c.args.name.now (search rules) cc)
    (λ x b q k. search (rules, tests))
