use Rattle.std.proofs.Common.{◌≡◌, IsFalse, ◌≤◌, ◌*◌, List, ℕ, [], length}
use Rattle.std.specs.Io.KnownBytes.{Consumes, Keeps}
use Rattle.argon2_audit.specs.Audit.{IsBefore}
use Rattle.argon2_audit.proofs.run.session_of.Given as goal

abbrev pub invariant-pieces : goal.invariant-pieces
invariant-pieces g l = (l.session.tally.lines ≤ 65536 * l.turn) × (length l.piece ≡ 65536)
    × ((read : List ℕ) × IsBefore l.fn.options l.session read []
    × Consumes (g.R.Read.remaining l.fn.input) (g.R.Read.remaining l.input) read)
    × (IsFalse l.shows_progress → Keeps (g.E.Write.contents l.fn.errors) (g.E.Write.contents l.errors))
