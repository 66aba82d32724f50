use Rattle.std.proofs.Common.{ap, ◌∙◌}
use Rattle.argon2_base.specs.PhcFields.{phc_of}
use Rattle.argon2.specs.StoredTexts.{shown_settings}
use Rattle.argon2_c.proofs.phc.shown.argon2_c_phc_show.Goals as goal

pub returns-in-Some-clause-settings : goal.returns-in-Some-clause-settings
returns-in-Some-clause-settings c = λ v s says shows.
    c.show.ensures.settings s (ap shown_settings (c.in-Some.ensures.only v says) ∙ shows)

pub returns-in-Some-clause-no_settings : goal.returns-in-Some-clause-no_settings
returns-in-Some-clause-no_settings c = λ v fault says none.
    c.show.ensures.no_settings fault (ap shown_settings (c.in-Some.ensures.only v says) ∙ none)

pub returns-in-Some-clause-unsaid : goal.returns-in-Some-clause-unsaid
returns-in-Some-clause-unsaid c = λ none. absurd (none (phc_of c.in-Some.hash) c.in-Some.ensures.found)
