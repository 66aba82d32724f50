use Rattle.std.proofs.Common.{length}
use Rattle.argon2_schemes.proofs.prefixes.+str_after_any.Given as goal

abbrev pub decreases-str_after_any : goal.decreases-str_after_any
decreases-str_after_any l = length l.prefixes.now
