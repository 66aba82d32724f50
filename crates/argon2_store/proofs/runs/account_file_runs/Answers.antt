use Rattle.argon2_store.proofs.Imports.{∥∥₁_map, empty}
use Rattle.argon2_store.proofs.RunLemmas.{runs-AreMade, get-AreMade}
use Rattle.argon2_store.proofs.runs.account_file_runs.Goals as goal

pub returns-clause-events : goal.returns-clause-events
returns-clause-events c = runs-AreMade

pub returns-clause-texts : goal.returns-clause-texts
returns-clause-texts c runs names after = ∥∥₁_map (runs-AreMade empty runs names after)
    (λ (events, of, run). (events, of, get-AreMade events names run))
