use Rattle.argon2_store.proofs.Imports.{arith, Ok, AddsNames, Finishes, HasRows, IsHonest, Texts, map, ∥∥₁_map, entry_of, Changes-Finishes, err_is, HasRows-Changes, OnOk-constant, HasSome-map, HasRows-undo}
use Rattle.argon2_rows.proofs.AddLemmas.{WritesAll-undo}
use Rattle.argon2_store.proofs.account_file.AccountFile.add_listed.Goals as goal
use Rattle.argon2_store.proofs.account_file.AccountFile.add_listed.Goals.{After-commit}

-- the names are committed, or taken back
written : (g : _) (c : After-commit g) (before : Texts) → HasRows g.S.Store c.args.self.now.store before
    → AddsNames g.S.Store c.args.self.now.store c.commit.new.self before (map entry_of c.args.new.now) c.commit.result
written g c before has =
    let (after, good, wrote, all) = c.in-Ok.ensures before has.0 (λ clean unbroken. has.1.seen clean (c.requires clean)) in
    let ends : Finishes g.S.Store c.add_each.new.store c.commit.new.self (Ok tt) c.commit.result = search arith in
    let adds = λ (clean : IsHonest g.S.Store c.commit.new.self). all (omega (arith, clean, ends.clean)) in (
      after,
      search arith,
      OnOk-constant c.commit.result adds,
      Changes-Finishes g.met.S.Store.settled c.requires _ _ has good wrote
          ends,
    )

pub returns-in_ok-commit-in-Ok : goal.returns-in_ok-commit-in-Ok
returns-in_ok-commit-in-Ok g c before has =
    rw c.in_ok-commit-in-Ok.was at (written g (goal.at.returns-in_ok-commit-in-Ok g c).After-commit before has)

pub returns-in_err-commit-in-Ok : goal.returns-in_err-commit-in-Ok
returns-in_err-commit-in-Ok g c before has =
    rw (err_is c.from_residual.result _ c.from_residual.ensures.1)
    (rw c.in_err-commit-in-Ok.was at (written g (goal.at.returns-in_err-commit-in-Ok g c).After-commit before has))

pub invariant_of-self : goal.invariant_of-self
invariant_of-self g c = record {
  kept =
      ∥∥₁_map c.args.self.now.kept (λ it. HasRows-Changes c.commit.result (written g c it.0 it.1).3);
}

pub returns-in-Err : goal.returns-in-Err
returns-in-Err g c before has =
    let (after, good, wrote, adds) = c.in-Err.ensures before has.0 (λ clean unbroken. has.1.seen clean (c.requires clean)) in
    search (arith, WritesAll-undo, g.met.S.Store.settled)

pub invariant_of-self-in-Err : goal.invariant_of-self-in-Err
invariant_of-self-in-Err g c = record {
  kept = HasSome-map c.args.self.now.kept (λ before has.
      let (after, good, wrote, adds) = c.in-Err.ensures before has.0 (λ clean unbroken. has.1.seen clean (c.requires clean)) in
      HasRows-undo g.met.S.Store.settled c.requires has wrote (c.undo.ensures.kept before) c.undo.ensures.quiet);
}
