-- What admitting a text answers.
use Rattle.std.proofs.Common.{◌≡◌, ℕ, ◌≤◌, nat_lt, ℤ, false, List, length, Some, Ok, None, ◌⊎◌, inl, inr, subst, refl, sym, ◌∙◌, arith}
use Rattle.std.proofs.lemmas.Bool.Decides.{nat_tests}
use Rattle.argon2_base.specs.PhcText.{HasBytes, Phc, IsPhcText}
use Rattle.argon2.specs.Bound.{AsksWithin}
use Rattle.argon2.specs.Refusals.{first_of, max_len}
use Rattle.argon2.specs.Settings.{AreValid}
use Rattle.argon2.specs.declared.bound.BoundError.TheVariants.{Refused, TooExpensive}
use Rattle.argon2.specs.StoredTexts.{StoredValue, stored_of}
use Rattle.argon2_c.specs.declared.code.TheConstants.{OK}
use Rattle.argon2_c.specs.declared.phc.shown.PhcShown.{PhcShown}
use Rattle.argon2_c.specs.declared.phc.admit.PhcBound.{PhcBound}
use Rattle.argon2_c.specs.PhcAdmission.{Admission, AreAllowed, IsAdmitCode, IsAdmitted, admit_faults, admitted_request, bound_of}
use Rattle.argon2_c.specs.Requests.{IsFaultless}
use Rattle.argon2_c.proofs.Numbers.{algorithm_number-most, version_number-16_or_19}

-- ---- the code

-- lengths that are allowed have no fault
admit_faults-none : (bound : PhcBound) (output password secret old_secret : ℕ)
    → AreAllowed bound output password secret old_secret
    → first_of (admit_faults bound output password secret old_secret) ≡ None
admit_faults-none bound output password secret old_secret allowed =
    let is_output_least : nat_lt output bound.min_output ≡ false = grind (arith, nat_tests) in
    let is_output_most : nat_lt bound.max_output output ≡ false = grind (arith, nat_tests) in
    let is_password_most : nat_lt max_len password ≡ false = grind (arith, nat_tests) in
    let is_secret_most : nat_lt max_len secret ≡ false = grind (arith, nat_tests) in
    let is_old_most : nat_lt max_len old_secret ≡ false = grind (arith, nat_tests) in
    rw (is_output_least, is_output_most, is_password_most, is_secret_most, is_old_most) refl

-- a value that asks within the bound, and whose lengths are allowed, is admitted with the code 0
pub IsAdmitCode-OK : (bound : PhcBound) (password secret old_secret : ℕ) (v : Phc) (stored : StoredValue) (code : ℤ)
    → AsksWithin (bound_of bound) v → stored_of v ≡ Ok stored
    → AreAllowed bound (length stored.hash) password secret old_secret
    → IsAdmitCode bound password secret old_secret v code → code ≡ OK
IsAdmitCode-OK bound password secret old_secret v stored code asks reads allowed (inl (TooExpensive, refusal, is)) =
    absurd (refusal.2 (grind (arith, asks, refusal)))
IsAdmitCode-OK bound password secret old_secret v stored code asks reads allowed (inl (Refused error, inl refusal, is)) =
    let no = sym asks.asked ∙ refusal in
    cc
IsAdmitCode-OK bound password secret old_secret v stored code asks reads allowed (inl (Refused error, inr refusal, is)) =
    let no = sym reads ∙ refusal.1 in
    cc
IsAdmitCode-OK bound password secret old_secret v stored code asks reads allowed (inr (other, within, is, sum)) =
    let same : stored ≡ other = grind arith in
    let none = admit_faults-none bound (length other.hash) password secret old_secret
    (subst (λ (x : StoredValue). AreAllowed bound (length x.hash) password secret old_secret) same allowed) in
    rw none at sum

-- ---- the request that is shown

-- a key that is one of two secrets is as short as both
key-most : {secret old_secret : ℕ} (key : ℕ) → (key ≡ secret) ⊎ (key ≡ old_secret) → secret ≤ max_len → old_secret ≤ max_len
    → key ≤ max_len
key-most key (inl is) secret_most old_most = rw is secret_most
key-most key (inr is) secret_most old_most = rw is old_most

-- what is read has the salt and the hash of the text
pub stored_of-fields : (v : Phc) (stored : StoredValue) → stored_of v ≡ Ok stored
    → (v.salt ≡ Some stored.salt) × (v.hash ≡ Some stored.hash)
stored_of-fields v stored is = (grind arith, grind arith)

module _ (bound : PhcBound) (text : List ℕ) (password secret old_secret : ℕ) (v : Phc) (says : IsPhcText text v)
    (only : (w : Phc) → IsPhcText text w → v ≡ w) where
  -- a hash can be made of what is shown of an admitted text
  Admission-faultless : (shown : PhcShown) (a : Admission bound password secret old_secret v shown)
      → AreValid a.stored.settings.parameters → shown.associated_len ≤ max_len
      → (threads key : ℕ) → (key ≡ secret) ⊎ (key ≡ old_secret)
      → IsFaultless (admitted_request threads shown) shown.output_len password shown.salt_len key shown.associated_len
  Admission-faultless shown a valid most threads key one =
      let has = stored_of-fields v a.stored a.reads in
      let salt : HasBytes 8 48 a.stored.salt = rw (has.0) at says.0.salt in
      let hash : HasBytes 4 64 a.stored.hash = rw (has.1) at says.0.hash in
      let salt_len : shown.salt_len ≡ length a.stored.salt = rw (has.0) at a.fields.salt.0 in
      let output_len : shown.output_len ≡ length a.stored.hash = rw (has.1) at a.fields.output.0 in
      let settings = a.settings in
      record {
        out_least = omega (arith, output_len, hash);
        out_most = omega (arith, output_len, hash);
        pwd_most = a.lengths.2;
        salt_least = omega (arith, salt_len, salt);
        salt_most = omega (arith, salt_len, salt);
        secret_most = key-most key one a.lengths.3 a.lengths.4;
        associated_most = most;
        memory_least = grind (arith, nat_tests);
        some_pass = grind (arith, nat_tests);
        some_lane = grind (arith, nat_tests);
        lanes_most = grind (arith, nat_tests);
        is_variant = subst (λ n. n ≤ 2) (sym settings.algorithm) (algorithm_number-most a.stored.settings.algorithm);
        is_version = subst (λ n. (n ≡ 16) ⊎ (n ≡ 19)) (sym settings.version) (version_number-16_or_19 a.stored.settings.version);
      }

  -- the code of a text that is refused is an answer, whatever is shown
  pub IsAdmitted-refused : (code : ℤ) (shown : PhcShown) → IsAdmitCode bound password secret old_secret v code
      → (code ≡ OK → ⊥) → IsAdmitted bound text password secret old_secret code shown
  IsAdmitted-refused code shown is not = record {
    said = λ w same. subst (λ x. IsAdmitCode bound password secret old_secret x code) (only w same) is;
    found = λ ok. (v, says);
    unsaid = λ none. absurd (none v says);
    admits = λ w ok same. absurd (not ok);
    faultless = λ threads key ok one. absurd (not ok);
  }

  -- the code 0 is an answer for a text that is admitted and shown
  pub IsAdmitted-shown : (shown : PhcShown) (a : Admission bound password secret old_secret v shown)
      → AreValid a.stored.settings.parameters → shown.associated_len ≤ max_len
      → IsAdmitted bound text password secret old_secret OK shown
  IsAdmitted-shown shown a valid most =
      let none = admit_faults-none bound (length a.stored.hash) password secret old_secret a.lengths in
      record {
        said = λ w same. subst (λ x. IsAdmitCode bound password secret old_secret x OK) (only w same)
            (inr (a.stored, a.asks, a.reads, rw none refl));
        found = λ ok. (v, says);
        unsaid = λ none. absurd (none v says);
        admits = λ w ok same. subst (λ x. Admission bound password secret old_secret x shown) (only w same) a;
        faultless = λ threads key ok one. Admission-faultless shown a valid most threads key one;
      }
