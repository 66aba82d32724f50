-- What follows from a test of each character.
use Rattle.argon2_base.proofs.Imports.{common_steps, ◌≡◌, ℕ, Bool, true, false, List, [], ◌∷◌, arith, ◌==◌, nat_tests, and_parts, list_all, AllByRecursion, IsUtf8, All-from_recursion}
use Rattle.argon2_base.proofs.Imports.{IsUtf8-from_ascii, IsAscii-from_all, is_name_char, is_name}

-- each element is what passing elements are
pub tests_give : (p : ℕ → Bool) (P : ℕ → Type 0) (gives : (c : ℕ) → p c ≡ true → P c) (s : List ℕ)
    → list_all p s ≡ true → AllByRecursion P s
tests_give p P gives [] h = tt
tests_give p P gives (x ∷ s) h = grind (arith, nat_tests, gives x, tests_give p P gives s)

-- the characters of a name
pub name_chars : (s : List ℕ) → is_name s ≡ true → list_all is_name_char s ≡ true
name_chars s h = (and_parts _ (list_all is_name_char s) h).1

-- a name is text
pub name_utf8 : (s : List ℕ) → is_name s ≡ true → IsUtf8 s
name_utf8 s h = grind (
  arith,
  common_steps,
  IsUtf8-from_ascii,
  IsAscii-from_all,
  All-from_recursion,
  tests_give,
  nat_tests,
  name_chars,
)

-- a character that doesn't pass is in no list of those that do
pub lacks_by : (p : ℕ → Bool) (c : ℕ) → p c ≡ false → (s : List ℕ) → list_all p s ≡ true
    → AllByRecursion (λ x. (x == c) ≡ false) s
lacks_by p c fails s h = grind (arith, tests_give, nat_tests)
