-- Which number a decimal is of.
use Rattle.argon2_base.proofs.Imports.{common_steps, ◌≡◌, ℕ, ◌^◌, ◌<◌, List, Some, None, arith, lt-ltb, nat_tests, bytes_eq-Decides, decimal_is_IsNumeral, decimal, number_of}
use Rattle.std.proofs.lemmas.Fmt.{decimal_digit, decimal_step, length-decimal-le}

-- how a decimal grows
pub ruleset decimal_steps = (decimal_digit, decimal_step, length-decimal-le)

-- a decimal is of its number
pub number_again : (text : List ℕ) (n : ℕ) → n < 2 ^ 32 → text ≡ decimal n → number_of text ≡ Some n
number_again text n small is = grind (arith, common_steps, decimal_is_IsNumeral, bytes_eq-Decides, lt-ltb)

-- what is no decimal is of no number
pub number_none : (text : List ℕ) → ((n : ℕ) → n < 2 ^ 32 → text ≡ decimal n → ⊥) → number_of text ≡ None
number_none text h = grind (arith, bytes_eq-Decides, nat_tests)
