use Rattle.std.proofs.Common.{◌≤◌, length, take}
use Rattle.std.specs.Io.KnownBytes.{Appends}
use Rattle.argon2_io.proofs.line.write_bytes.Given as goal

abbrev pub invariant-pieces : goal.invariant-pieces
invariant-pieces g l = (l.written ≤ length l.fn.bytes)
    × Appends (g.W.Write.contents l.fn.writer) (g.W.Write.contents l.writer) (take l.written l.fn.bytes)
