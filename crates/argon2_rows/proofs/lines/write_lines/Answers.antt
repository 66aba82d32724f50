use Rattle.argon2_rows.proofs.Imports.{rules, arith, IsHonest}
use Rattle.argon2_rows.proofs.TableLemmas.{err_is}
use Rattle.argon2_rows.proofs.LineLemmas.{AreWritten-end, IsWriting-begin, AreCut-IsWriting, GoesOn-next_row, AreCut-nothing}
use Rattle.argon2_rows.proofs.lines.write_lines.Goals as goal

pub loop-init : goal.loop-init
loop-init g c = record {
  live = c.in_ok-seek.ensures.live;
  same = search arith;
  quiet = search arith;
  lines = λ clean names texts sees. IsWriting-begin _ _ _ names _ (search arith)
      (rw c.clear.ensures at (c.in_ok-seek.ensures.ok clean)) (search arith) texts;
}

pub loop-preserved : goal.loop-preserved
loop-preserved g c = record {
  live = search rules;
  same = search arith;
  quiet = search arith;
  lines = λ clean names texts sees.
      rw (c.in-Some-All.is, c.in-Some-All.field-0-is) at
      (GoesOn-next_row _ _ names _ _ _ _ _ (c.loop.invariant.lines (search arith) names texts sees)
      (rw c.if-not-branch.false at (c.in_ok-next.ensures.ok clean)) c.write_line.result c.write_line.ensures);
}

pub returns-then-not-branch-clause-shows : goal.returns-then-not-branch-clause-shows
returns-then-not-branch-clause-shows g c names texts sees clean =
    AreWritten-end _ (g.S.Store.view c.loop.store) names _ _ _ (c.loop.invariant.lines (search arith) names texts sees)
    (rw c.if-not-branch.true at (c.in_ok-next.ensures.ok clean)).0 c.flush.ensures.bytes c.flush.result _ c.outcome.ensures

pub returns-in-Some-clause-shows : goal.returns-in-Some-clause-shows
returns-in-Some-clause-shows g c names texts sees clean =
    let on = GoesOn-next_row _ _ names _ _ _ _ _ (c.loop.invariant.lines (search arith) names texts sees)
    (rw c.if-not-branch.false at (c.in_ok-next.ensures.ok clean)) c.write_line.result c.write_line.ensures in
    grind arith

-- each row has two texts
pub returns-in-None-clause-reads : goal.returns-in-None-clause-reads
returns-in-None-clause-reads g c names texts sees =
    let never : IsHonest g.S.Store c.next.new.self → ⊥ = λ clean.
    rw c.in-None.is at (GoesOn-next_row _ _ names _ _ _ _ _
    (c.loop.invariant.lines (search arith) names texts (sees (search arith)))
    (rw c.if-not-branch.false at (c.in_ok-next.ensures.ok clean)) c.write_line.result c.write_line.ensures) in
    search arith

-- after an error of the store a prefix is written

pub returns-in_err-seek-clause-shows : goal.returns-in_err-seek-clause-shows
returns-in_err-seek-clause-shows g c names texts sees clean =
    rw (err_is _ _ c.from_residual.ensures.1) (AreCut-nothing c.args.view names (g.W.Write.contents c.args.output.now))

pub returns-in_err-next-clause-shows : goal.returns-in_err-next-clause-shows
returns-in_err-next-clause-shows g c names texts sees clean =
    rw (err_is _ _ c.from_residual-in_err-next.ensures.1)
    (AreCut-IsWriting _ (g.S.Store.view c.loop.store) names _ _ (c.loop.invariant.lines (search arith) names texts sees))

pub returns-in-None-clause-shows : goal.returns-in-None-clause-shows
returns-in-None-clause-shows g c names texts sees clean =
    absurd (rw c.in-None.is at (GoesOn-next_row _ _ names _ _ _ _ _ (c.loop.invariant.lines (search arith) names texts sees)
    (rw c.if-not-branch.false at (c.in_ok-next.ensures.ok clean)) c.write_line.result c.write_line.ensures))

pub returns-clause-shows : goal.returns-clause-shows
returns-clause-shows g c names texts sees clean =
    AreCut-IsWriting _ (g.S.Store.view c.loop.store) names _ _ (c.loop.invariant.lines clean names texts sees)
