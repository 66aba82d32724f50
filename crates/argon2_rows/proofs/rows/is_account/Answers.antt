use Rattle.argon2_rows.proofs.Imports.{arith}
use Rattle.argon2_rows.proofs.rows.is_account.Goals as goal

pub returns-then-is_ok : goal.returns-then-is_ok
returns-then-is_ok c = (
  λ is. ((c.in-Some.name.now, c.in-Some.text.now), (search arith), (search arith), (search arith), c.in-Some.ensures.found),
  λ (e, named, good, line, at). let only = c.in-Some.ensures.only e.0 e.1 at in grind arith,
)
