use Rattle.std.proofs.Common.{length}
use Rattle.argon2_audit.proofs.json_report.+write_members.Given as goal

abbrev pub decreases-write_members : goal.decreases-write_members
decreases-write_members l = length l.members.now
