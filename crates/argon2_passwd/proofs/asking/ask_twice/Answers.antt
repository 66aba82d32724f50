use Rattle.argon2_passwd.proofs.AskingLemmas.{two_writes_append}
use Rattle.argon2_passwd.proofs.asking.ask_twice.Goals as goal

pub returns-then-eq-clause-asked : goal.returns-then-eq-clause-asked
returns-then-eq-clause-asked g c = two_writes_append _ _ _ _ _ c.in_ok-first.ensures.asked c.in_ok-again.ensures.asked
