use Rattle.argon2_rows.proofs.Imports.{shown_char, Appends, flat_map}
use Rattle.argon2_rows.proofs.lines.write_name.Given as goal

-- the characters so far are written
abbrev pub invariant-loop-c : goal.invariant-loop-c
invariant-loop-c g l = Appends (g.W.Write.contents l.fn.output) (g.W.Write.contents l.output) (flat_map shown_char l.yielded)
