use Rattle.std.proofs.Common.{arith, lit<}
use Rattle.std.proofs.lemmas.Str.Pattern.{strip_prefix_char}
use Rattle.argon2_schemes.proofs.locks.after_lock.Goals as goal

pub returns : goal.returns
returns c =
    grind (arith, strip_prefix_char 33 c.args.text.now c.strip_prefix.result c.strip_prefix.ensures.cases (lit< tt))
