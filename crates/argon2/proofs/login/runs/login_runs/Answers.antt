use Rattle.argon2.proofs.login_lemmas.RunLemmas.{all_known, last_holds}
use Rattle.argon2.proofs.login.runs.login_runs.Goals as goal

pub returns : goal.returns
returns c = record {
  texts = λ target fits events store run name. (all_known target fits events store run name).0;
  passwords = λ target fits events store run name given did e. (last_holds target fits events store run name given did e).0;
  target = λ target fits events store run name given did e. (last_holds target fits events store run name given did e).1;
}
