use Rattle.argon2_base.proofs.Imports.{◌≡◌, length, value_of, items_left, pairs_left}
use Rattle.argon2_base.proofs.phc.list.value_in.Given as goal

abbrev pub invariant-items : goal.invariant-items
invariant-items l = value_of l.name (pairs_left l.left) ≡ value_of l.name (pairs_left l.fn.left)

abbrev pub decreases-items : goal.decreases-items
decreases-items l = length (items_left l.left)
