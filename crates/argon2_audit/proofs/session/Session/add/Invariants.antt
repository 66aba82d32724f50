use Rattle.std.proofs.Common.{◌≤◌, ◌+◌, List, ℕ, length}
use Rattle.argon2_audit.specs.Audit.{IsBefore}
use Rattle.argon2_audit.specs.declared.options.Options.{Options}
use Rattle.argon2_audit.proofs.session.Session.add.Given as goal

abbrev pub invariant-lines : goal.invariant-lines
invariant-lines g l = (l.self.tally.lines + length l.rest ≤ l.fn.self.tally.lines + length l.bytes)
    × ((options : Options) (all : List ℕ) → IsBefore options l.fn.self all l.bytes → IsBefore options l.self all l.rest)

abbrev pub decreases-lines : goal.decreases-lines
decreases-lines g l = length l.rest
