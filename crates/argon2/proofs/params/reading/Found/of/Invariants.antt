use Rattle.argon2.proofs.Imports.{found_of}
use Rattle.argon2.proofs.params_lemmas.ListReading.{Reading}
use Rattle.argon2.proofs.params.reading.Found.of.Given as goal

abbrev pub invariant-loop-name : goal.invariant-loop-name
invariant-loop-name l =
    (goal.iterator-loop-name).can_next l.name-iterator
    × (goal.iterator-loop-name).is_finite l.name-iterator
    × Reading l.list l.name-iterator (found_of l.found)
