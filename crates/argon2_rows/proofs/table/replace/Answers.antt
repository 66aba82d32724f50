use Rattle.argon2_rows.proofs.Imports.{Some, None, changed}
use Rattle.argon2_rows.proofs.RowLemmas.{changed-after_remove, get-changed}
use Rattle.argon2_rows.proofs.TableLemmas.{Writes-trans}
use Rattle.argon2_rows.proofs.table.replace.Goals as goal

pub returns-clause-writes : goal.returns-clause-writes
returns-clause-writes g c names has =
    let name = c.args.name.now in
    let gone = changed-after_remove names name (Some c.args.new.now) in
    let none = get-changed names name None in
    Writes-trans (c.in_ok-remove.ensures.writes names has)
    (rw gone at (c.put.ensures.writes (changed names name None) (λ clean. none))) (λ long. long)
