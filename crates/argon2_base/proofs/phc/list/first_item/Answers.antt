use Rattle.argon2_base.proofs.phc_lemmas.Separators.{slice_split-first}
use Rattle.argon2_base.proofs.phc.list.first_item.Goals as goal

pub returns-in-Some-clause-items : goal.returns-in-Some-clause-items
returns-in-Some-clause-items c =
    rw c.in-Some.ensures.0 (slice_split-first 44 c.in-Some.item.now c.in-Some.rest.now c.in-Some.ensures.1)
