-- What parameters are listed as is read as the same.
use Rattle.argon2.proofs.Imports.{◌≡◌, ℕ, ◌^◌, ◌<◌, ◌≤◌, List, [], ◌∷◌, length, refl, arith, Option, None, Ok, Some, nat_tests, IsNone, decimal, IsBytes, short_bytes_again, number_again}
use Rattle.argon2.proofs.Imports.{number_of, strict_base64, parameter_items, params_of, first_fault, cost_parameters, short_bytes}

-- costs that are valid with an output length are valid without one
pub valid_without : (m t p : ℕ) (o : Option ℕ) → IsNone (first_fault m t p o) → first_fault m t p None ≡ None
valid_without m t p o valid = grind (arith, nat_tests)

-- a cost, and bytes that the list has, are read as they were printed
cost : (n : ℕ) → n < 2 ^ 32 → number_of (decimal n) ≡ Some n
cost n h = number_again (decimal n) n h refl

some_bytes : (most x : ℕ) (b : List ℕ) → IsBytes (x ∷ b) → length (x ∷ b) ≤ most
    → short_bytes most (strict_base64 (x ∷ b)) ≡ Some (x ∷ b)
some_bytes most x b bytes h = short_bytes_again most _ (x ∷ b) bytes h refl

-- the parameters that were listed, with an output length that is valid
pub read_again : (m t p : ℕ) (k d : List ℕ) (o : Option ℕ) → m < 2 ^ 32 → t < 2 ^ 32 → p < 2 ^ 32
    → IsBytes k → IsBytes d → length k ≤ 8 → length d ≤ 32
    → first_fault m t p o ≡ None
    → params_of o (parameter_items m t p k d) ≡ Ok (record (cost_parameters m t p o) { keyid = k; associated = d })
read_again m t p [] [] o hm ht hp bk bd lk ld valid = simp (cost, valid)
read_again m t p (x ∷ k) [] o hm ht hp bk bd lk ld valid = simp (cost, some_bytes, valid)
read_again m t p [] (y ∷ d) o hm ht hp bk bd lk ld valid = simp (cost, some_bytes, valid)
read_again m t p (x ∷ k) (y ∷ d) o hm ht hp bk bd lk ld valid = simp (cost, some_bytes, valid)
