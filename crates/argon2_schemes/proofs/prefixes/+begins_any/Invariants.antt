use Rattle.std.proofs.Common.{length}
use Rattle.argon2_schemes.proofs.prefixes.+begins_any.Given as goal

abbrev pub decreases-begins_any : goal.decreases-begins_any
decreases-begins_any l = length l.prefixes.now
