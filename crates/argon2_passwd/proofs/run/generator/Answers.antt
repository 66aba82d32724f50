use Rattle.argon2_passwd.proofs.Common.{ap, next_salt}
use Rattle.argon2_passwd.proofs.run.generator.Goals as goal

pub returns-clause-salt : goal.returns-clause-salt
returns-clause-salt g c = (_, c.in_ok-seed.ensures.given, ap next_salt c.from_seed.ensures)
