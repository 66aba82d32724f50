use Rattle.std.proofs.Common.{length}
use Rattle.argon2_schemes.proofs.prefixes.+after_any.Given as goal

abbrev pub decreases-after_any : goal.decreases-after_any
decreases-after_any l = length l.prefixes.now
