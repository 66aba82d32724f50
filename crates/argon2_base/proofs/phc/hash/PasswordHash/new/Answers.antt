use Rattle.argon2_base.proofs.Imports.{◌≡◌, ◌∙◌, lit<, Some, None, false, strip_prefix_char, is_name}
use Rattle.argon2_base.proofs.phc_lemmas.PhcTextLemmas.{first_and_left, flat_map-dollar, text_of_fields, from_params, from_salt, no_version, no_item}
use Rattle.argon2_base.proofs.phc.hash.PasswordHash.new.Goals as goal

pub returns-in_default-clause-only : goal.returns-in_default-clause-only
returns-in_default-clause-only c = λ v h.
    strip_prefix_char 36 c.args.text.now None c.in_default.ensures.cases (lit< tt) _
    (h.1 ∙ flat_map-dollar v.algorithm _)

pub returns-in_err-algorithm-clause-only : goal.returns-in_err-algorithm-clause-only
returns-in_err-algorithm-clause-only c = λ v h.
    let s = first_and_left c.args.text.now c.in-Some.text v h c.in-Some.ensures.cases c.first_field.ensures in
    let no : is_name c.first_field.result.0.now ≡ false = c.in_err-algorithm.ensures.when.1 in
    absurd cc

pub returns-in_err-version-clause-only : goal.returns-in_err-version-clause-only
returns-in_err-version-clause-only c = λ v h.
    let s = first_and_left c.args.text.now c.in-Some.text v h c.in-Some.ensures.cases c.first_field.ensures in
    absurd (c.in_err-version.ensures.only v.version (from_params v) h.0.version (no_version v h.0) s.1)

pub returns-in_err-params-clause-only : goal.returns-in_err-params-clause-only
returns-in_err-params-clause-only c = λ v h.
    let s = first_and_left c.args.text.now c.in-Some.text v h c.in-Some.ensures.cases c.first_field.ensures in
    let f1 = c.in_ok-version.ensures.only v.version (from_params v) h.0.version (no_version v h.0) s.1 in
    absurd (c.in_err-params.ensures.only v.params (from_salt v) h.0.params (no_item v h.0) f1.1)

pub returns-in_err-salt-clause-only : goal.returns-in_err-salt-clause-only
returns-in_err-salt-clause-only c = λ v h.
    let s = first_and_left c.args.text.now c.in-Some.text v h c.in-Some.ensures.cases c.first_field.ensures in
    let f1 = c.in_ok-version.ensures.only v.version (from_params v) h.0.version (no_version v h.0) s.1 in
    let f2 = c.in_ok-params.ensures.only v.params (from_salt v) h.0.params (no_item v h.0) f1.1 in
    absurd (c.in_err-salt.ensures.only v.salt v.hash h.0.salt h.0.hash h.0.salted f2.1)

pub returns-clause-only : goal.returns-clause-only
returns-clause-only c = λ v h.
    let s = first_and_left c.args.text.now c.in-Some.text v h c.in-Some.ensures.cases c.first_field.ensures in
    let f1 = c.in_ok-version.ensures.only v.version (from_params v) h.0.version (no_version v h.0) s.1 in
    let f2 = c.in_ok-params.ensures.only v.params (from_salt v) h.0.params (no_item v h.0) f1.1 in
    let f3 = c.in_ok-salt.ensures.only v.salt v.hash h.0.salt h.0.hash h.0.salted f2.1 in
    let name = c.in_ok-algorithm.ensures.value ∙ s.0 in
    λ i. record { algorithm = name i; version = f1.0 i; params = f2.0 i; salt = f3.0 i; hash = f3.1 i }

pub returns-clause-found : goal.returns-clause-found
returns-clause-found c =
    let e = strip_prefix_char 36 c.args.text.now (Some c.in-Some.text) c.in-Some.ensures.cases (lit< tt) in
    let name = rw (← c.in_ok-algorithm.ensures.value) at c.in_ok-algorithm.ensures.when in (
      assumption (name, c.in_ok-version.ensures, c.in_ok-params.ensures, c.in_ok-salt.ensures),
      text_of_fields c.args.text.now c.in-Some.text.now _ e c.first_field.ensures c.in_ok-algorithm.ensures.value
          c.in_ok-version.ensures.found.0 c.in_ok-params.ensures.found.0 c.in_ok-salt.ensures.found.0,
    )
