use Rattle.argon2_rows.proofs.Imports.{arith, IsHonest}
use Rattle.argon2_rows.proofs.TableLemmas.{err_is}
use Rattle.argon2_rows.proofs.rows.look_up.Goals as goal

pub returns-in_ok-copy_text-in-Name-clause-found : goal.returns-in_ok-copy_text-in-Name-clause-found
returns-in_ok-copy_text-in-Name-clause-found g c names texts sees clean =
    let (text, has, at) = (rw c.in-Name.is at c.in_ok-find.ensures.found) names clean (search arith) in
    grind (arith, c.in_ok-copy_text-in-Name.ensures (c.args.name.now, text) (texts c.args.name.now text has).1 at)

pub returns-in_err-copy_text-in-Name-clause-reads : goal.returns-in_err-copy_text-in-Name-clause-reads
returns-in_err-copy_text-in-Name-clause-reads g c names texts sees =
    let memory = λ (clean : IsHonest g.S.Store c.find.new.store).
    let (text, has, at) = (rw c.in-Name.is at c.in_ok-find.ensures.found) names clean (search arith) in
    c.in_err-copy_text-in-Name.ensures (c.args.name.now, text) (texts c.args.name.now text has).1 at in
    rw (err_is c.from_residual-in_err-copy_text-in-Name.result _ c.from_residual-in_err-copy_text-in-Name.ensures.1)
    (search arith)
