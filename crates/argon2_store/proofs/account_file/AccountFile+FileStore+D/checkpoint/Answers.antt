use Rattle.argon2_store.proofs.Imports.{arith, settled_at, over_file, HasRows-same_view, HasSome-map}
use Rattle.argon2_store.proofs.FileLemmas.{Stays-KeepsRows, NamesStay-closed}
use Rattle.argon2_store.proofs.account_file.AccountFile+FileStore+D.checkpoint.Goals as goal

pub invariant_of-self : goal.invariant_of-self
invariant_of-self g c =
    record { kept = HasSome-map c.args.self.now.kept (search (arith, HasRows-same_view)) }

pub returns-then-is_closed-clause-call : goal.returns-then-is_closed-clause-call
returns-then-is_closed-clause-call g c = search (arith, NamesStay-closed, over_file, settled_at)

pub returns-clause-call : goal.returns-clause-call
returns-clause-call g c names has =
    let done = c.checkpoint.ensures in
    Stays-KeepsRows {g = over_file {g = g.D.Disk}} (λ s db. settled_at s g.met.D.Disk.seen_may_stay db) c.args.self.now
    c.is_closed.ensures c.if-is_closed.false _ c.checkpoint.result names has (search (arith, HasRows-same_view, done.cause)) _
    c.read_result.ensures
