use Rattle.argon2_rows.proofs.RowLemmas.{IsLong-IsHuge}
use Rattle.argon2_rows.proofs.TableLemmas.{Writes-map}
use Rattle.argon2_rows.proofs.table.insert.Goals as goal

pub returns-clause-writes : goal.returns-clause-writes
returns-clause-writes g c names none =
    Writes-map (c.put.ensures.writes names none) (IsLong-IsHuge (c.args.name.now, c.args.text.now))
