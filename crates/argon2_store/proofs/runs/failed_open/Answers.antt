use Rattle.argon2_store.proofs.NextOpenLemmas.{failed_open-LeavesNames}
use Rattle.argon2_store.proofs.runs.failed_open.Goals as goal

pub returns : goal.returns
returns g c = failed_open-LeavesNames g.D.Disk (c.args.old.now.log, c.args.old.now.db)
    (c.args.new.now.log, c.args.new.now.db)
