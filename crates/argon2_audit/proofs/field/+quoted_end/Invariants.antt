use Rattle.std.proofs.Common.{length}
use Rattle.argon2_audit.proofs.field.+quoted_end.Given as goal

abbrev pub decreases-quoted_end : goal.decreases-quoted_end
decreases-quoted_end l = length l.line.now
