-- A denial says that the value, or the stored text, does not accept the password, unless memory was refused.
use Rattle.std.proofs.Common.{◌≡◌, ℕ, Bool, if◌then◌else◌, List, Option, Some, None, Result, Ok, Err, ◌⊎◌, inl, inr, ap, refl, subst, sym, arith}
use Rattle.std.specs.Prelude.{◌≢◌, IfErr, IsErrAnd, IsSomeAnd}
use Rattle.argon2_base.specs.Error.{Fault, bad_password, fault_of}
use Rattle.argon2.specs.StoredTexts.{StoredValue, is_tag, result_and_then, stored_of}
use Rattle.argon2.proofs.password_hash_lemmas.Verified.{exact}
use Rattle.argon2.specs.declared.bound.BoundError.TheVariants as bound
use Rattle.argon2_policy.specs.Policy.{AcceptsBy, Denial, Error, IsDenial, OutOfMemory, Phc, Refused, TooExpensive}
use Rattle.argon2_policy.specs.Policy.{IsShut, SaysValue}
use Rattle.argon2_policy.specs.Denials.{Locked, NameUnknown, OtherScheme}
use Rattle.argon2_policy.specs.Policy.{Admits, AdmitsStored, IsVerifyAnswer, PasswordInvalid, PolicyValue, IsSecretsRefusal}
use Rattle.argon2_policy.proofs.AdmittingLemmas.{refused_asks_above}

-- ---- values

-- a value does not accept a password that verifying calls wrong
pub wrong_is_not_accepted : (secret password : List ℕ) (v : Phc) → IsVerifyAnswer secret password v (Err PasswordInvalid)
    → ¬ (AcceptsBy secret password v)
wrong_is_not_accepted secret password v answer = let why = exact secret password v (Err PasswordInvalid) answer in grind arith

-- the answer of verifying, by a test of the stored hash
abbrev verdict_by : (StoredValue → Bool) → Result StoredValue Fault → Result (Unit {0}) Fault
verdict_by is_right r = result_and_then r (λ stored. if is_right stored then Ok tt else Err bad_password)

-- an error other than a wrong password is the answer whatever the test of the hash
fault_same_by_any_test : (one other : StoredValue → Bool) (r : Result StoredValue Fault) (e : Error) → e ≢ PasswordInvalid
    → Err (fault_of e) ≡ verdict_by one r → Err (fault_of e) ≡ verdict_by other r
fault_same_by_any_test one other r e differs is = grind arith

-- verifying under another secret fails with the same error, unless the error is a wrong password
error_same_under_any_secret : (secret other password : List ℕ) (v : Phc) (e : Error) → e ≢ PasswordInvalid
    → IsVerifyAnswer secret password v (Err e) → IsVerifyAnswer other password v (Err e)
error_same_under_any_secret secret other password v e differs (inl is) =
    inl (fault_same_by_any_test (is_tag secret password) (is_tag other password) (stored_of v) e differs is)
error_same_under_any_secret secret other password v e differs (inr memory) = inr memory

-- neither of two secrets accepts, unless memory was refused
refused_by_both : {M A B C : Type 0} → M ⊎ ¬ A → M ⊎ ¬ C → M ⊎ ¬ (A ⊎ (B × C))
refused_by_both a c = grind arith

-- verifying a value that can not be read fails with the error of reading
fault_is_verdict : (r : Result StoredValue Fault) (is_right : StoredValue → Bool) (fault : Fault) → r ≡ Err fault
    → Err fault ≡ verdict_by is_right r
fault_is_verdict r is_right fault is = grind arith

module _ (policy : PolicyValue) (password : List ℕ) (v : Phc) where
  -- an old secret does not accept if verifying under it fails, unless memory was refused
  old_accepts_not : (o : Option (List ℕ)) (e : Error)
      → ((secret : List ℕ) → o ≡ Some secret → IsVerifyAnswer secret password v (Err e))
      → (e ≡ OutOfMemory) ⊎ ¬ (IsSomeAnd o (λ secret. AcceptsBy secret password v))
  old_accepts_not None e answer = inr (λ absent. absent)
  old_accepts_not (Some secret) e answer = exact secret password v (Err e) (answer secret refl)

  -- a value that can't be verified accepts no password, unless memory was refused
  unverified_accepts_nothing : (e : Error) → stored_of v ≡ Err (fault_of e) → (secret : List ℕ)
      → (e ≡ OutOfMemory) ⊎ ¬ (AcceptsBy secret password v)
  unverified_accepts_nothing e is secret =
      exact secret password v (Err e) (inl (fault_is_verdict (stored_of v) (is_tag secret password) (fault_of e) is))

  -- the target's secret does not accept if no secret does, unless memory was refused
  target_accepts_not : (e : Error) → IsSecretsRefusal policy password v e
      → (e ≡ OutOfMemory) ⊎ ¬ (AcceptsBy policy.target.secret password v)
  target_accepts_not e (inl why) = exact policy.target.secret password v (Err e) why.0
  target_accepts_not e (inr why) = inr (wrong_is_not_accepted policy.target.secret password v why.0)

  -- nor does the old secret
  old_accepts_not_either : (e : Error) → IsSecretsRefusal policy password v e
      → (e ≡ OutOfMemory) ⊎ ¬ (IsSomeAnd policy.old_secret (λ secret. AcceptsBy secret password v))
  old_accepts_not_either e why = old_accepts_not policy.old_secret e
      (λ secret is. grind (arith, error_same_under_any_secret policy.target.secret secret password v e))

  -- a refusal other than of memory says that the value does not accept the password within the bound
  pub denied_not_admitted : (why : Denial) → IsDenial policy password v why
      → (why ≡ Refused OutOfMemory) ⊎ ¬ (Admits policy password v)
  denied_not_admitted NameUnknown why = absurd why
  denied_not_admitted Locked why = absurd why
  denied_not_admitted (OtherScheme scheme) why = absurd why
  denied_not_admitted TooExpensive why = inr (λ admits. refused_asks_above policy.bound v bound.TooExpensive why admits.0)
  denied_not_admitted (Refused e) (inl (inl why)) =
      inr (λ admits. refused_asks_above policy.bound v (bound.Refused e) why admits.0)
  denied_not_admitted (Refused e) (inl (inr why)) =
      elim (refused_by_both (unverified_accepts_nothing e why.1 policy.target.secret) (old_accepts_not policy.old_secret e
      (λ secret is. inl (fault_is_verdict (stored_of v) (is_tag secret password) (fault_of e) why.1)))) [
        | inl memory ↦ inl (ap Refused memory)
        | inr never ↦ inr (λ admits. never admits.1)
      ]
  denied_not_admitted (Refused e) (inr why) =
      elim (refused_by_both (target_accepts_not e why.1) (old_accepts_not_either e why.1)) [
        | inl memory ↦ inl (ap Refused memory)
        | inr never ↦ inr (λ admits. never admits.1)
      ]

-- ---- what is stored

-- a text that no password opens says no value
pub shut_text_says_no_value : (stored : Option (List ℕ)) (why : Denial) → IsShut stored why → (v : Phc) → ¬ (SaysValue stored v)
shut_text_says_no_value None why shut v says = says
shut_text_says_no_value (Some text) why shut v says = let locked = says.0 in let scheme = says.1 in let is = says.2 in grind arith

-- what is stored does not accept a password that its only value refuses, unless memory was refused
pub denied_text_not_admitted : {X : Type 0} (policy : PolicyValue) (password : List ℕ) (stored : Option (List ℕ)) (v : Phc)
    (r : Result X Denial)
    → ((w : Phc) → SaysValue stored w → v ≡ w) → IfErr r (IsDenial policy password v)
    → IfErr r (λ why. (why ≡ Refused OutOfMemory) ⊎ ¬ (AdmitsStored policy password stored))
denied_text_not_admitted policy password stored v (Ok x) only denies = tt
denied_text_not_admitted policy password stored v (Err why) only denies =
    elim (denied_not_admitted policy password v why denies) [
      | inl memory ↦ inl memory
      | inr never ↦ inr (λ admits. never (subst (λ w. Admits policy password w) (sym (only admits.0 admits.1)) admits.2))
    ]

-- a result that is an error with this value
pub err_is : {X E : Type 0} (r : Result X E) (e : E) → IsErrAnd r (λ f. f ≡ e) → r ≡ Err e
err_is r e is = grind arith
