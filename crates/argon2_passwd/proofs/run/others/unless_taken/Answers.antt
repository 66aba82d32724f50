use Rattle.std.proofs.lemmas.Map.Text.{is_eq-slice_cmp}
use Rattle.argon2_passwd.proofs.Common.{arith, err_is, false, has_name, inr, has_text, failed_file_has_status_3, refl, Some, true, ◌≡◌}
use Rattle.argon2_passwd.proofs.run.others.unless_taken.Goals as goal

pub returns-then-not-branch-clause-new : goal.returns-then-not-branch-clause-new
returns-then-not-branch-clause-new g c known has = λ honest.
    let there : has_name c.args.names.now c.in-Ok.name.now ≡ true = grind arith in rw (c.in-Ok.is, there) refl

pub returns-in_err-text_of-clause-fails : goal.returns-in_err-text_of-clause-fails
returns-in_err-text_of-clause-fails g c =
    let e = c.in_err-text_of.field-0.0 in
    rw (err_is _ _ c.from_residual-in_err-text_of.ensures.1)
    (failed_file_has_status_3 e c.in_err-text_of.ensures.error, (Some e, inr c.in_err-text_of.ensures.reads, refl))

pub returns-then-is_some-clause-new : goal.returns-then-is_some-clause-new
returns-then-is_some-clause-new g c known has = λ honest.
    let shows = c.in_ok-text_of.ensures.shows known (c.in_ok-text_of.ensures.reads known has).has honest in
    let new : has_name c.args.names.now c.in-Ok.name.now ≡ false = grind arith in
    let there : has_text known c.in-Ok.name.now ≡ true = grind arith in
    rw (c.in-Ok.is, new, there) refl

pub returns-else-is_some-clause-new : goal.returns-else-is_some-clause-new
returns-else-is_some-clause-new g c known has = λ honest.
    let shows = c.in_ok-text_of.ensures.shows known (c.in_ok-text_of.ensures.reads known has).has honest in
    let new : has_name c.args.names.now c.in-Ok.name.now ≡ false = grind arith in
    let none : has_text known c.in-Ok.name.now ≡ false = grind arith in
    rw (c.in-Ok.is, new, none) refl

pub returns-then-is_some-clause-names : goal.returns-then-is_some-clause-names
returns-then-is_some-clause-names g c = λ name. let same = is_eq-slice_cmp c.in-Ok.name.now name in
    let new = c.in_ok-insert.ensures.updates.0 (record { ref_ptr = (0, 0); now = name }) in grind arith

pub returns-else-is_some-clause-names : goal.returns-else-is_some-clause-names
returns-else-is_some-clause-names g c = λ name. let same = is_eq-slice_cmp c.in-Ok.name.now name in
    let new = c.in_ok-insert.ensures.updates.0 (record { ref_ptr = (0, 0); now = name }) in grind arith
