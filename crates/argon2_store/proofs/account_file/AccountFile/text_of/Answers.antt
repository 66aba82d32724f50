use Rattle.argon2_store.proofs.Imports.{arith, KeepsRows-EndsRead, HasSome-map}
use Rattle.argon2_store.proofs.FileLemmas.{Stays-KeepsRows}
use Rattle.argon2_store.proofs.account_file.AccountFile.text_of.Goals as goal

pub invariant_of-self : goal.invariant_of-self
invariant_of-self g c = record {
  kept = HasSome-map c.args.self.now.kept (λ names has. (KeepsRows-EndsRead g.met.S.Store.settled (search arith)
      c.look_up-text.result g.met.S.Store.broken_if_shut has (c.look_up-text.ensures.reads names) c.undo_failed.ensures).0);
}

pub returns-clause-reads : goal.returns-clause-reads
returns-clause-reads g c names has =
    Stays-KeepsRows g.met.S.Store.settled c.args.self.now c.is_closed.ensures c.if-is_closed.false _ _ names has
    (KeepsRows-EndsRead g.met.S.Store.settled (search arith) _ g.met.S.Store.broken_if_shut has
    (c.look_up-text.ensures.reads names)
    c.undo_failed.ensures) _ c.read_result.ensures
