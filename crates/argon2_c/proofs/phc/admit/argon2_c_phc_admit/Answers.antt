use Rattle.std.proofs.Common.{rules, arith, w32, to_z, of_z, ◌≡◌, ap, refl, inl, inr}
use Rattle.std.specs.Prelude.{unwrap_or}
use Rattle.argon2_base.specs.PhcFields.{phc_of}
use Rattle.argon2.specs.StoredTexts.{stored_value}
use Rattle.argon2_c.specs.declared.code.TheConstants.{OK}
use Rattle.argon2_c.specs.PhcAdmission.{Admission}
use Rattle.argon2_c.proofs.PhcAdmitted.{IsAdmitted-refused, IsAdmitted-shown}
use Rattle.argon2_c.proofs.phc.admit.argon2_c_phc_admit.Goals as goal

pub returns-in-Err-clause-admitted : goal.returns-in-Err-clause-admitted
returns-in-Err-clause-admitted c =
    let code = c.bound_code.result in
    let whole : to_z w32 (of_z w32 code) ≡ code = search rules in
    let refused = rw c.bound_of.ensures at c.in-Err.ensures.refused in
    rw whole (IsAdmitted-refused c.args.bound.now c.args.text.now c.args.pwd c.args.secret c.args.old_secret
    (phc_of c.in-Some.hash) c.in-Some.ensures.found c.in-Some.ensures.only code c.args.shown.now
    (inl (c.in-Err.error, refused, c.bound_code.ensures.value)) c.bound_code.ensures.refuses)

pub returns-in-Some-length_refusal-clause-admitted : goal.returns-in-Some-length_refusal-clause-admitted
returns-in-Some-length_refusal-clause-admitted c =
    let code = c.in-Some-length_refusal.code in
    let whole : to_z w32 (of_z w32 code) ≡ code = search rules in
    let asks = rw c.bound_of.ensures at c.in-Ok.ensures.within in
    let first = rw c.len-output.ensures.value at c.in-Some-length_refusal.ensures.first in
    rw whole (IsAdmitted-refused c.args.bound.now c.args.text.now c.args.pwd c.args.secret c.args.old_secret
    (phc_of c.in-Some.hash) c.in-Some.ensures.found c.in-Some.ensures.only code c.args.shown.now
    (inr (stored_value c.in-Ok.stored, asks, c.in-Ok.ensures.shown, ap (λ o. unwrap_or o OK) first))
    c.in-Some-length_refusal.ensures.code)

pub returns-clause-admitted : goal.returns-clause-admitted
returns-clause-admitted c =
    let shows = c.with_settings.ensures in
    let shown = c.with_settings.result in
    let asks = rw c.bound_of.ensures at c.in-Ok.ensures.within in
    let admission : Admission c.args.bound.now c.args.pwd c.args.secret c.args.old_secret (phc_of c.in-Some.hash) shown =
    record {
      stored = stored_value c.in-Ok.stored;
      reads = c.in-Ok.ensures.shown;
      asks = asks;
      lengths = rw c.len-output.ensures.value at (c.in_default-length_refusal.ensures.none refl);
      fields = shows.fields;
      settings = shows.settings;
    } in
    IsAdmitted-shown c.args.bound.now c.args.text.now c.args.pwd c.args.secret c.args.old_secret (phc_of c.in-Some.hash)
    c.in-Some.ensures.found c.in-Some.ensures.only shown admission shows.valid (omega (arith, shows.fits))
