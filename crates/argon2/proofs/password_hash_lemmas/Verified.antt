-- Verifying answers Ok exactly if the value accepts.
use Rattle.argon2.proofs.Imports.{◌≡◌, ℕ, true, List, length, Result, Ok, Err, inl, inr, ◌⊎◌, refl, arith, nat_tests, le-leb, bytes_eq-Decides, MatchResult, OutOfMemory, Phc, AcceptsBy}
use Rattle.argon2.proofs.Imports.{IsVerifyAnswer, is_tag, verify_outcome, stored_of, tag_of, context_with, Fault, result_and_then, HashError}

-- what is read is read of something
read_ok : {X Y : Type 0} (r : Result X Fault) (next : X → Result Y Fault) (y : Y) → Ok y ≡ result_and_then r next
    → (x : X) × (r ≡ Ok x) × (Ok y ≡ next x)
read_ok (Ok x) next y is = (x, refl, is)
read_ok (Err fault) next y is = absurd cc

module _ (secret password : List ℕ) (v : Phc) where
  -- Ok is answered only if the value accepts
  accepts_verified : Ok tt ≡ verify_outcome secret password v → AcceptsBy secret password v
  accepts_verified h =
      let stored = read_ok (stored_of v) _ tt h in
      let passes : is_tag secret password stored.0 ≡ true = grind arith in
      let same = bytes_eq-Decides stored.0.hash
      (tag_of (context_with stored.0.settings secret) password stored.0.salt (length stored.0.hash)) in
      record {
        salt = stored.0.salt;
        hash = stored.0.hash;
        settings = stored.0.settings;
        has_salt = grind arith;
        has_hash = grind arith;
        has_parameters = grind arith;
        has_algorithm = grind arith;
        has_version = grind arith;
        short = grind (arith, nat_tests);
        same_tag = grind (arith, nat_tests);
      }

  -- if the value accepts, Ok is answered
  verified_accepts : AcceptsBy secret password v → verify_outcome secret password v ≡ Ok tt
  verified_accepts a =
      let same = (bytes_eq-Decides a.hash (tag_of (context_with a.settings secret) password a.salt (length a.hash))).1
      a.same_tag in
      let short = le-leb (length password) 4294967295 a.short in
      rw (a.has_salt, a.has_hash, a.has_parameters, a.has_algorithm, a.has_version, short, same) refl

  -- what an answer says of the conditions
  pub exact : (r : Result (Unit {0}) HashError) → IsVerifyAnswer secret password v r
      → MatchResult r (λ _. AcceptsBy secret password v) (λ e. (e ≡ OutOfMemory) ⊎ (AcceptsBy secret password v → ⊥))
  exact (Ok _) (inl is) = accepts_verified is
  exact (Ok _) (inr is) = let no = is.0 in absurd cc
  exact (Err e) (inl is) = inr (λ a. let yes = verified_accepts a in let no = is in absurd cc)
  exact (Err e) (inr is) = let same = is.0 in grind arith
