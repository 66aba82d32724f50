use Rattle.argon2.proofs.Imports.{arith, refl, number_again}
use Rattle.argon2.proofs.params.reading.take_number.Goals as goal

pub returns : goal.returns
returns c = rw (number_again c.args.value.now c.in-Ok.n (grind arith) c.in-Ok.ensures.found) refl
