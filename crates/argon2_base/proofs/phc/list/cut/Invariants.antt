use Rattle.argon2_base.proofs.Imports.{take, Lacks}
use Rattle.argon2_base.proofs.phc.list.cut.Given as goal

abbrev pub invariant-loop-i : goal.invariant-loop-i
invariant-loop-i l = Lacks l.at (take l.i l.text)
