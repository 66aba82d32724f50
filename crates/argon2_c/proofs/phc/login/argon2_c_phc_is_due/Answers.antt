use Rattle.std.proofs.Common.{rules, w32, to_z, of_z, ◌≡◌, Ok, subst, sym, ap, ◌∙◌}
use Rattle.argon2_base.specs.PhcFields.{phc_of}
use Rattle.argon2.specs.StoredTexts.{settings_value, shown_settings}
use Rattle.argon2_c.specs.PhcLogin.{IsDueCode}
use Rattle.argon2_c.proofs.phc.login.argon2_c_phc_is_due.Goals as goal

pub returns-in-Ok-clause-said : goal.returns-in-Ok-clause-said
returns-in-Ok-clause-said c = λ none v says.
    let code = c.due_code.result in
    let whole : to_z w32 (of_z w32 code) ≡ code = search rules in
    let wanted = settings_value c.settings_of-wanted.result in
    let is = c.in-Some-read.ensures.only v says in
    let shows = subst (λ w. Ok (settings_value c.in-Ok.shown) ≡ shown_settings w) is c.in-Ok.ensures in (
      wanted,
      c.settings_of-wanted.ensures,
      rw whole (subst (λ r. IsDueCode wanted c.args.by_old_secret r code) shows c.due_code.ensures),
    )

pub returns-in-Ok-clause-unsaid : goal.returns-in-Ok-clause-unsaid
returns-in-Ok-clause-unsaid c = λ _ none. absurd (none (phc_of c.in-Some-read.hash) c.in-Some-read.ensures.found)

pub returns-in-Err-clause-unsaid : goal.returns-in-Err-clause-unsaid
returns-in-Err-clause-unsaid c = λ _ none. absurd (none (phc_of c.in-Some-read.hash) c.in-Some-read.ensures.found)
