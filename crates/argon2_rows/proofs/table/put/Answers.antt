use Rattle.argon2_rows.proofs.Imports.{arith}
use Rattle.argon2_rows.proofs.RowLemmas.{insert_entry-rows_of, IsHuge-unstorable}
use Rattle.argon2_rows.proofs.TableLemmas.{Writes-map}
use Rattle.argon2_rows.proofs.table.put.Goals as goal

pub returns-clause-writes : goal.returns-clause-writes
returns-clause-writes g c names none =
    let rows = λ (clean : _). insert_entry-rows_of names c.args.name.now c.args.text.now (none clean) in
    Writes-map (search arith)
    (IsHuge-unstorable ((g.S.Store.view c.args.store.now).reals 0) _ (c.args.name.now, c.args.text.now) c.in_ok-fill_row.ensures)
