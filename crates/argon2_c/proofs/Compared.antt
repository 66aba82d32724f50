-- Comparing hashes.
use Rattle.std.proofs.Common.{◌≡◌, ◌↔◌, ℕ, Bool, true, false, List, if◌then◌else◌, refl, ap}
use Rattle.std.proofs.lemmas.Slice.Eq.{bytes_eq-Decides}
use Rattle.argon2_c.specs.declared.code.TheConstants.{OK, VERIFY_MISMATCH}
use Rattle.argon2_c.specs.Verification.{compare_code}

-- a choice of the code 0 is the choice of true
choice-OK : (b : Bool) → (if b then OK else VERIFY_MISMATCH) ≡ OK → b ≡ true
choice-OK true h = refl
choice-OK false h = absurd cc

-- comparing two hashes answers 0 if and only if they are equal
pub compare_code-OK : (a b : List ℕ) → compare_code a b ≡ OK ↔ (a ≡ b)
compare_code-OK a b = (
  λ h. (bytes_eq-Decides a b).0 (choice-OK _ h),
  λ same. ap (λ b. if b then OK else VERIFY_MISMATCH) ((bytes_eq-Decides a b).1 same),
)
