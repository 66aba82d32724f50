-- What verifying a value finds, that what is found is admitted, and how often it hashes.
use Rattle.std.proofs.Common.{◌≡◌, ◌∙◌, ℕ, [], take, Bool, if◌then◌else◌, List, Option, Some, None, Result, Ok, Err, ◌⊎◌, ◌∷◌, inl, inr, ap, refl, subst, sym, arith}
use Rattle.std.specs.Prelude.{◌≢◌, is_some, ok_or}
use Rattle.argon2_base.specs.Error.{Fault, bad_password, fault_of, no_memory}
use Rattle.argon2.specs.StoredTexts.{StoredValue, is_tag, result_and_then, stored_of}
use Rattle.argon2.proofs.password_hash_lemmas.Verified.{exact}
use Rattle.argon2_policy.specs.Policy.{AsksWithin, Error, IsDenial, OutOfMemory, Phc, Refused, SettingsValue}
use Rattle.argon2_policy.specs.Policy.{AsksFor, HashValue, IsAged, IsOutdated, Recent, hash_of, hashes_of_wrong, settings_or_target, shown_settings}
use Rattle.argon2_policy.specs.declared.policy.Age.{Age}
use Rattle.argon2_policy.specs.Policy.{Admits, IsFound, IsVerifyAnswer, Outdated, PasswordInvalid, PolicyValue}
use Rattle.argon2_policy.proofs.DenyingLemmas.{wrong_is_not_accepted}

-- ---- values that can be verified

-- the settings of a value that can be verified are those that it shows
stored_value_gives_settings : (salt hash : Option (List ℕ)) (r : Result SettingsValue Fault) (stored : StoredValue)
    → result_and_then (ok_or salt bad_password) (λ salt. result_and_then (ok_or hash bad_password) (λ hash.
    result_and_then r (λ settings. Ok (record { settings = settings; salt = salt; hash = hash })))) ≡ Ok stored
    → r ≡ Ok stored.settings
stored_value_gives_settings salt hash r stored is = grind arith

-- an error by the test of the hash is a wrong password
fault_of_test_is_wrong : (e : Error) (is_right : Bool) (r : Result (Unit {0}) Fault)
    → r ≡ (if is_right then Ok tt else Err bad_password) → r ≡ Err (fault_of e) → e ≡ PasswordInvalid
fault_of_test_is_wrong e is_right r is same = grind arith

-- an error by a refused request for memory is out of memory
fault_of_memory_is_memory : (e : Error) (r : Result (Unit {0}) Fault) → r ≡ Err no_memory → r ≡ Err (fault_of e) → e ≡ OutOfMemory
fault_of_memory_is_memory e r is same = grind arith

module _ (policy : PolicyValue) (password : List ℕ) (v : Phc) (stored : StoredValue) (is : stored_of v ≡ Ok stored) where
  -- a value that can be verified shows its settings
  pub verified_value_shows_settings : shown_settings v ≡ Ok stored.settings
  verified_value_shows_settings = stored_value_gives_settings v.salt v.hash (shown_settings v) stored is

  -- a value that the target's secret accepts is found, recent or outdated
  pub value_is_found_by_target : (age : Age) → IsVerifyAnswer policy.target.secret password v (Ok tt) → IsAged policy.target v age
      → IsFound policy password v age
  value_is_found_by_target Recent answer aged = (exact policy.target.secret password v (Ok tt) answer, aged)
  value_is_found_by_target Outdated answer aged = inl (exact policy.target.secret password v (Ok tt) answer, aged)

  -- a value that only the old secret accepts is found, outdated
  pub value_is_found_by_old : (secret : List ℕ) → policy.old_secret ≡ Some secret
      → IsVerifyAnswer policy.target.secret password v (Err PasswordInvalid) → IsVerifyAnswer secret password v (Ok tt)
      → IsFound policy password v Outdated
  value_is_found_by_old secret same first second =
      inr (wrong_is_not_accepted policy.target.secret password v first, rw same (exact secret password v (Ok tt) second))

  -- a value that neither secret accepts is denied with the error under the old one
  pub value_is_denied_by_old : (secret : List ℕ) (e : Error) → policy.old_secret ≡ Some secret → AsksWithin policy.bound v
      → IsVerifyAnswer policy.target.secret password v (Err PasswordInvalid) → IsVerifyAnswer secret password v (Err e)
      → IsDenial policy password v (Refused e)
  value_is_denied_by_old secret e same within first second = inr (within, inr (first, rw same second))

  -- a value is denied with the error under the target's secret if there is no old secret, or no memory
  pub value_is_denied_by_target : (e : Error) → AsksWithin policy.bound v → (e ≢ PasswordInvalid) ⊎ (policy.old_secret ≡ None)
      → IsVerifyAnswer policy.target.secret password v (Err e) → IsDenial policy password v (Refused e)
  value_is_denied_by_target e within why answer = inr (within, inl (answer, why))

  -- verifying a value that can be verified fails with a wrong password or out of memory
  pub error_is_wrong_or_memory : (secret : List ℕ) (e : Error) → IsVerifyAnswer secret password v (Err e)
      → (e ≡ PasswordInvalid) ⊎ (e ≡ OutOfMemory)
  error_is_wrong_or_memory secret e (inl same) =
      inl (fault_of_test_is_wrong e (is_tag secret password stored) _ (rw is at same) refl)
  error_is_wrong_or_memory secret e (inr (same, read)) = inr (fault_of_memory_is_memory e _ same refl)

-- a value that is found is admitted
pub found_is_admitted : (policy : PolicyValue) (password : List ℕ) (v : Phc) (age : Age) → AsksWithin policy.bound v
    → IsFound policy password v age → Admits policy password v
found_is_admitted policy password v Recent within found = (within, inl found.0)
found_is_admitted policy password v Outdated within (inl by_target) = (within, inl by_target.0)
found_is_admitted policy password v Outdated within (inr by_old) = (within, inr by_old)

-- a value that is found, but not recent, is outdated
pub found_is_outdated : (policy : PolicyValue) (password : List ℕ) (v : Phc) (age : Age) → age ≢ Recent
    → IsFound policy password v age → IsOutdated policy password v
found_is_outdated policy password v Recent isnt found = absurd (isnt refl)
found_is_outdated policy password v Outdated isnt found = found

-- ---- hashes

-- one hash is a prefix of the hashes of a wrong password
first_hash_is_prefix : (o : Option (List ℕ)) (hash : HashValue)
    → hash ∷ [] ≡ take 1 (if is_some o then hash ∷ hash ∷ [] else hash ∷ [])
first_hash_is_prefix None hash = refl
first_hash_is_prefix (Some secret) hash = refl

-- if the first hash is refused memory, it is the only one
pub refused_memory_takes_one_hash : (policy : PolicyValue) (password : List ℕ) (v : Phc) (stored : StoredValue) (e : Error)
    (hashes : List HashValue) → stored_of v ≡ Ok stored → IsVerifyAnswer policy.target.secret password v (Err e)
    → e ≢ PasswordInvalid → hashes ≡ hash_of stored.settings password ∷ []
    → AsksFor (hashes_of_wrong policy (settings_or_target policy.target (stored_of v)) password) (Refused e) hashes
refused_memory_takes_one_hash policy password v stored e hashes is answer isnt same =
    subst (λ r. AsksFor (hashes_of_wrong policy (settings_or_target policy.target r) password) (Refused e) hashes) (sym is)
    (elim (error_is_wrong_or_memory policy password v stored is policy.target.secret e answer) [
      | inl wrong ↦ absurd (isnt wrong)
      | inr memory ↦ inr (ap Refused memory, (1, same ∙ first_hash_is_prefix policy.old_secret _))
    ])
