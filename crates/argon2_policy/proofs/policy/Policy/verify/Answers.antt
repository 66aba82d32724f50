use Rattle.std.proofs.Common.{◌≡◌, arith, inl, inr, subst}
use Rattle.std.specs.Prelude.{◌≢◌, Err}
use Rattle.argon2.specs.Argon2.{secret_of}
use Rattle.argon2.specs.StoredTexts.{stored_value}
use Rattle.argon2_policy.specs.Policy.{IsVerifyAnswer, PasswordInvalid, phc_of, policy_value}
use Rattle.argon2_policy.proofs.DenyingLemmas.{err_is}
use Rattle.argon2_policy.proofs.VerifyingLemmas.{refused_memory_takes_one_hash, value_is_denied_by_old, value_is_denied_by_target, value_is_found_by_old, value_is_found_by_target, verified_value_shows_settings}
use Rattle.argon2_policy.proofs.policy.Policy.verify.Goals as goal

pub returns-in_default-clause-found : goal.returns-in_default-clause-found
returns-in_default-clause-found c =
    let policy = policy_value c.args.self.now in
    let v = phc_of c.args.hash.now in
    let shown = c.in-Ok.ensures.shown in (
      c.in-Ok.ensures.within,
      value_is_found_by_target policy c.args.password.now v (stored_value c.in-Ok.text) shown c.age.result
          (c.in_default.ensures.answer v shown)
          (c.age.ensures v (verified_value_shows_settings policy c.args.password.now v (stored_value c.in-Ok.text) shown)),
    )

pub returns-then-ne-clause-denied : goal.returns-then-ne-clause-denied
returns-then-ne-clause-denied c =
    let policy = policy_value c.args.self.now in
    let v = phc_of c.args.hash.now in
    let shown = c.in-Ok.ensures.shown in
    let isnt : c.in-Err.error ≢ PasswordInvalid = λ is. grind arith in
    value_is_denied_by_target policy c.args.password.now v (stored_value c.in-Ok.text) shown c.in-Err.error c.in-Ok.ensures.within
    (inl isnt) (c.in-Err.ensures.answer v shown)

pub returns-then-ne-clause-hashed : goal.returns-then-ne-clause-hashed
returns-then-ne-clause-hashed c =
    let policy = policy_value c.args.self.now in
    let v = phc_of c.args.hash.now in
    let shown = c.in-Ok.ensures.shown in
    let isnt : c.in-Err.error ≢ PasswordInvalid = λ is. grind arith in
    refused_memory_takes_one_hash policy c.args.password.now v (stored_value c.in-Ok.text) c.in-Err.error _ shown
    (c.in-Err.ensures.answer v shown) isnt (grind arith)

pub returns-in_default-old_target-clause-denied : goal.returns-in_default-old_target-clause-denied
returns-in_default-old_target-clause-denied c =
    let policy = policy_value c.args.self.now in
    let v = phc_of c.args.hash.now in
    let shown = c.in-Ok.ensures.shown in
    value_is_denied_by_target policy c.args.password.now v (stored_value c.in-Ok.text) shown c.in-Err.error c.in-Ok.ensures.within
    (inr (rw c.in_default-old_target.is at c.old_target.ensures)) (c.in-Err.ensures.answer v shown)

pub returns-in_err-verify-clause-denied : goal.returns-in_err-verify-clause-denied
returns-in_err-verify-clause-denied c =
    let policy = policy_value c.args.self.now in
    let v = phc_of c.args.hash.now in
    let shown = c.in-Ok.ensures.shown in
    let is : c.in-Err.error ≡ PasswordInvalid = grind arith in
    let first = subst (λ e. IsVerifyAnswer policy.target.secret c.args.password.now v (Err e)) is
    (c.in-Err.ensures.answer v shown) in
    rw (err_is _ _ c.from_residual.ensures.1)
    (value_is_denied_by_old policy c.args.password.now v (stored_value c.in-Ok.text) shown
    (secret_of c.in-Some.old) c.in_err-verify.field-0.0
    (rw c.in-Some.is at c.old_target.ensures).0 c.in-Ok.ensures.within first (c.in_err-verify.ensures.answer v shown))

pub returns-clause-found : goal.returns-clause-found
returns-clause-found c =
    let policy = policy_value c.args.self.now in
    let v = phc_of c.args.hash.now in
    let shown = c.in-Ok.ensures.shown in
    let is : c.in-Err.error ≡ PasswordInvalid = grind arith in
    let first = subst (λ e. IsVerifyAnswer policy.target.secret c.args.password.now v (Err e)) is
    (c.in-Err.ensures.answer v shown) in (
      c.in-Ok.ensures.within,
      value_is_found_by_old policy c.args.password.now v (stored_value c.in-Ok.text) shown (secret_of c.in-Some.old)
          (rw c.in-Some.is at c.old_target.ensures).0 first (c.in_ok-verify.ensures.answer v shown),
    )
