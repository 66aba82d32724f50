use Rattle.argon2_store.proofs.Imports.{arith, Ok}
use Rattle.argon2_rows.proofs.AddLemmas.{AddsNames-permutation, AddsNames-closed, WritesAll-after_undo}
use Rattle.argon2_store.proofs.account_file.AccountFile.add_in_order.Goals as goal

pub returns-in-Ok-add_listed : goal.returns-in-Ok-add_listed
returns-in-Ok-add_listed g c before has =
    AddsNames-permutation _ _ _ before _ _ (Ok tt) c.requires (search arith) has (c.in-Ok-add_listed.ensures before has)

pub returns-in-Err-Store : goal.returns-in-Err-Store
returns-in-Err-Store g c before has =
    AddsNames-permutation _ _ _ before _ c.as_slice.result.now _ c.requires (search arith) has
    (rw c.in-Err-Store.field-0-is at (c.in-Err-Store.ensures before has))

pub returns-then-is_closed : goal.returns-then-is_closed
returns-then-is_closed g c before has =
    let (had, first, quiet) = rw c.in-Err-Taken.field-0-is at (c.in-Err-Taken.ensures before has) in
    AddsNames-closed _ _ _ before had quiet _ g.met.S.Store.settled c.requires has.1 (search arith)

pub returns : goal.returns
returns g c before has =
    let (had, first, quiet) = rw c.in-Err-Taken.field-0-is at (c.in-Err-Taken.ensures before has) in
    search (arith, WritesAll-after_undo)
