use Rattle.argon2.proofs.Imports.{AcceptsBy, arith, Err, Fault, inl, inr, IsErrAnd, IsVerifyAnswer, List, Ok, OutOfMemory, Phc, refl, Result, result_and_then, rules, secret_of, stored_of, subst, ℕ, ◌≡◌, ◌⊎◌}
use Rattle.argon2.proofs.Imports.{phc_of}
use Rattle.argon2.proofs.password_hash_lemmas.Verified.{exact}
use Rattle.argon2.specs.Bound.{IsHashRefusal, IsBoundAnswer, IsStoredRefusal}
use Rattle.argon2.specs.declared.bound.Bound.{Bound}
use Rattle.argon2.specs.declared.bound.BoundError.{BoundError}
use Rattle.argon2.specs.declared.bound.BoundError.TheVariants.{Refused, TooExpensive}
use Rattle.argon2_base.specs.PhcText.{IsPhcText}
use Rattle.argon2.proofs.bound.Bound.verify.Goals as goal

err_is : {X E : Type 0} (r : Result X E) (e : E) → IsErrAnd r (λ f. f ≡ e) → r ≡ Err e
err_is r e is = grind arith

-- a value that can't be read is not accepted, for the same reason
faulty : {X Y : Type 0} (r : Result X Fault) (next : X → Result Y Fault) (fault : Fault) → r ≡ Err fault → Err fault
    ≡ result_and_then r next
faulty r next fault is = grind arith

-- why nothing is read is what verifying answers
unread : (bound : Bound) (secret password text : List ℕ) (v : Phc) (e : BoundError) → IsPhcText text v
    → ((w : Phc) → IsPhcText text w → v ≡ w) → IsStoredRefusal bound v e → IsBoundAnswer bound secret password text (Err e)
unread bound secret password text v TooExpensive found only why =
    inl ((λ w is. subst (λ x. IsHashRefusal bound x TooExpensive) (only w is) why), inl (v, found))
unread bound secret password text v (Refused e) found only (inl why) =
    inl ((λ w is. subst (λ x. IsHashRefusal bound x (Refused e)) (only w is) why), inl (v, found))
unread bound secret password text v (Refused e) found only (inr (within, is)) =
    inr (v, found, within, Err e, inl (faulty (stored_of v) _ _ is), refl)

pub returns-in_err-stored-clause-answer : goal.returns-in_err-stored-clause-answer
returns-in_err-stored-clause-answer c = rw (err_is _ _ c.from_residual-in_err-stored.ensures.1)
    (unread c.args.self.now (secret_of c.args.argon2.now) c.args.password.now c.args.text.now (phc_of c.in_ok-hash.hash)
    c.in_err-stored.field-0.0 c.in_ok-hash.ensures.found c.in_ok-hash.ensures.only c.in_err-stored.ensures.refused)

pub returns-in_err-verify_stored : goal.returns-in_err-verify_stored
returns-in_err-verify_stored c =
    let v = phc_of c.in_ok-hash.hash in
    let secret = secret_of c.args.argon2.now in
    let answer : IsVerifyAnswer secret c.args.password.now v (Err c.in_err-verify_stored.field-0.0) =
    c.in_err-verify_stored.ensures v c.in_ok-stored.ensures.shown in
    let why : (c.in_err-verify_stored.field-0.0 ≡ OutOfMemory) ⊎ (AcceptsBy secret c.args.password.now v → ⊥) =
    exact secret c.args.password.now v (Err c.in_err-verify_stored.field-0.0) answer in
    search (rules, answer, why)

pub returns-clause-answer : goal.returns-clause-answer
returns-clause-answer c =
    inr (
      phc_of c.in_ok-hash.hash,
      c.in_ok-hash.ensures.found,
      c.in_ok-stored.ensures.within,
      Ok tt,
      c.in_ok-verify_stored.ensures (phc_of c.in_ok-hash.hash) c.in_ok-stored.ensures.shown,
      refl,
    )

pub returns-clause-accepted : goal.returns-clause-accepted
returns-clause-accepted c = (
  phc_of c.in_ok-hash.hash,
  c.in_ok-hash.ensures.found,
  c.in_ok-stored.ensures.within,
  exact (secret_of c.args.argon2.now) c.args.password.now _ (Ok tt)
      (c.in_ok-verify_stored.ensures (phc_of c.in_ok-hash.hash) c.in_ok-stored.ensures.shown),
)
