use Rattle.argon2_base.specs.PhcFields.{phc_of}
use Rattle.argon2_c.proofs.phc.renewal.argon2_c_phc_renewal.Goals as goal

pub returns-in-Some-clause-unsaid : goal.returns-in-Some-clause-unsaid
returns-in-Some-clause-unsaid c = λ none. absurd (none (phc_of c.in-Some.hash) c.in-Some.ensures.found)
