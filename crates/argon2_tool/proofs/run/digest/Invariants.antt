use Rattle.std.proofs.Common.{◌≡◌, ℕ, ◌*◌, ◌≤◌, List, length}
use Rattle.std.specs.Io.KnownBytes.{Consumes}
use Rattle.argon2_base.specs.Hasher.{Holds}
use Rattle.argon2_tool.proofs.run.digest.Given as goal

abbrev pub invariant-pieces : goal.invariant-pieces
invariant-pieces g l = (l.hasher.digest_len ≡ l.fn.len) × (l.hasher.message_len ≤ 65536 * l.turn) × (length l.piece ≡ 65536)
    × ((read : List ℕ) × Holds l.hasher read × Consumes (g.R.Read.remaining l.fn.input) (g.R.Read.remaining l.input) read)
