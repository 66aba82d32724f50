use Rattle.argon2_base.proofs.Imports.{◌≡◌, ◌&&◌, length, list_all, are_distinct, is_param, items_left, pairs_left}
use Rattle.argon2_base.proofs.phc.list.are_params_in.Given as goal

abbrev pub invariant-items : goal.invariant-items
invariant-items l =
    (list_all is_param (pairs_left l.left) && are_distinct (pairs_left l.left))
    ≡ (list_all is_param (pairs_left l.fn.left) && are_distinct (pairs_left l.fn.left))

abbrev pub decreases-items : goal.decreases-items
decreases-items l = length (items_left l.left)
