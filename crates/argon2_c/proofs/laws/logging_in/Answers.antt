use Rattle.argon2_c.proofs.PhcLogin.{login-current, login-decides, login-hashes, login-kept, login-renewed}
use Rattle.argon2_c.proofs.laws.logging_in.Goals as goal

pub returns-clause-decides : goal.returns-clause-decides
returns-clause-decides g = login-decides

pub returns-clause-hashes : goal.returns-clause-hashes
returns-clause-hashes g = login-hashes

pub returns-clause-current : goal.returns-clause-current
returns-clause-current g = login-current

pub returns-clause-kept : goal.returns-clause-kept
returns-clause-kept g = login-kept

pub returns-clause-renewed : goal.returns-clause-renewed
returns-clause-renewed g = login-renewed
