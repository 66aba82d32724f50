use Rattle.argon2_rows.proofs.Imports.{arith, rules}
use Rattle.argon2_rows.proofs.RowLemmas.{seek_next-end, seek_next-row}
use Rattle.argon2_rows.proofs.rows.find.Goals as goal

pub returns-then-is_same-clause-found : goal.returns-then-is_same-clause-found
returns-then-is_same-clause-found g c names clean rows =
    (seek_next-row (g.S.Store.view c.args.store.now) names (c.requires (search arith)) rows (search rules)
    (c.in_ok-seek.ensures.ok (search arith))
    (rw c.if-not-branch.false at (c.in_ok-next.ensures.ok clean))).0 (grind arith)

pub returns-else-is_same-clause-found : goal.returns-else-is_same-clause-found
returns-else-is_same-clause-found g c names clean rows =
    (seek_next-row (g.S.Store.view c.args.store.now) names (c.requires (search arith)) rows (search rules)
    (c.in_ok-seek.ensures.ok (search arith))
    (rw c.if-not-branch.false at (c.in_ok-next.ensures.ok clean))).1 (grind arith)

pub returns-then-not-branch-clause-found : goal.returns-then-not-branch-clause-found
returns-then-not-branch-clause-found g c names clean rows =
    seek_next-end (g.S.Store.view c.args.store.now) names (c.requires (search arith)) rows (search rules)
    (c.in_ok-seek.ensures.ok (search arith))
    c.next.new.row (rw c.if-not-branch.true at (c.in_ok-next.ensures.ok clean))
