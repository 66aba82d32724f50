use Rattle.argon2_store.proofs.RunLemmas.{run-EndsRun}
use Rattle.argon2_store.proofs.runs.next_run.Goals as goal

pub returns : goal.returns
returns g c = run-EndsRun g.D.Disk g.met.D.Disk.seen_may_stay c.args.file.now
