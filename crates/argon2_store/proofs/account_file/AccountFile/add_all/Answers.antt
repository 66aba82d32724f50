use Rattle.argon2_store.proofs.Imports.{ap, arith, refl, Ok, Err, database_of, entry_of, map, crash_leaves-quiet}
use Rattle.argon2_store.proofs.FileLemmas.{Makes-AddsNames, Serves-unreadable, Makes-nothing, NamesStay-closed, names_after-IsFirstTaken, NamesStay-unread}
use Rattle.argon2_store.proofs.account_file.AccountFile.add_all.Goals as goal

pub returns-then-is_closed-clause-call : goal.returns-then-is_closed-clause-call
returns-then-is_closed-clause-call g c =
    Serves-unreadable (NamesStay-closed g.met.S.Store.settled _ c.is_closed.ensures c.if-is_closed.true) refl

pub returns-in-Ok-clause-call : goal.returns-in-Ok-clause-call
returns-in-Ok-clause-call g c before has =
    Makes-AddsNames (NamesStay-unread g.met.S.Store.settled _ c.is_closed.ensures c.if-is_closed.false before has) _ (Ok tt)
    (c.in-Ok.ensures before has) (Ok tt) refl

pub returns-in-Err-Store-clause-call : goal.returns-in-Err-Store-clause-call
returns-in-Err-Store-clause-call g c before has =
    Makes-AddsNames (NamesStay-unread g.met.S.Store.settled _ c.is_closed.ensures c.if-is_closed.false before has) _
    (Err c.in-Err-Store.error) (rw c.in-Err-Store.field-0-is at (c.in-Err-Store.ensures before has)) _
    (ap Err c.call_error.ensures)

pub returns-in-Err-Taken-clause-call : goal.returns-in-Err-Taken-clause-call
returns-in-Err-Taken-clause-call g c before has =
    let (names, first, quiet) = rw c.in-Err-Taken.field-0-is at (c.in-Err-Taken.ensures before has) in
    let left = crash_leaves-quiet g.S.Store g.met.S.Store.settled (database_of c.args.self.now) _ before has.1 quiet in
    let taken = names_after-IsFirstTaken (map entry_of c.args.new.now) before c.in-Err-Taken.index in
    (before, Makes-nothing _ names quiet left (search arith) (search arith) (λ clean. tt))

pub returns-in-Err-Taken-clause-index : goal.returns-in-Err-Taken-clause-index
returns-in-Err-Taken-clause-index g c names has clean =
    (rw c.in-Err-Taken.field-0-is at (c.in-Err-Taken.ensures names has)).1 clean
