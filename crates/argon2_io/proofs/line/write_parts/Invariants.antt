use Rattle.std.proofs.Common.{take}
use Rattle.std.specs.Io.KnownBytes.{Appends}
use Rattle.argon2_io.specs.Lines.{joined}
use Rattle.argon2_io.proofs.line.write_parts.Given as goal

abbrev pub invariant-parts : goal.invariant-parts
invariant-parts g l = Appends (g.W.Write.contents l.fn.writer) (g.W.Write.contents l.writer)
    (joined (take l.part-index l.fn.parts))
