-- The characters of decimals and of strict Base64.
use Rattle.argon2_base.proofs.Imports.{◌≡◌, ℕ, suc, ◌+◌, ◌*◌, ◌/◌, ◌%◌, ◌<◌, ◌^◌, Bool, true, List, [], ◌∷◌, length, slice_index_or, refl, arith, nat_tests, list_all-append, list_all_at}
use Rattle.argon2_base.proofs.Imports.{decimal_by_steps, list_all, decimal, encode_symbols, IsBytes, alphabet, is_value_char, strict_base64}

-- digits are characters of values
digit_char : (n : ℕ) → n < 10 → is_value_char (48 + n) ≡ true
digit_char n h = grind (arith, nat_tests)

-- a decimal has only characters of values
pub decimal_chars : (n : ℕ) → n < 2 ^ 64 → list_all is_value_char (decimal n) ≡ true
decimal_chars n small =
    decimal_by_steps (λ n ds. list_all is_value_char ds ≡ true) (λ n h. grind (arith, digit_char))
    (λ n ds ten h. grind (arith, list_all-append is_value_char ds, digit_char (n % 10))) n small

-- what passes at each place
list_all_get : (p : ℕ → Bool) (t : List ℕ) (i : ℕ) → list_all p t ≡ true → i < length t → p (slice_index_or t i 0) ≡ true
list_all_get p t i h lt = let fails = list_all_at p t i 0 lt in grind arith

-- an encoding has only characters of its alphabet
encoded_chars : (p : ℕ → Bool) (t : List ℕ) (m : List ℕ) → ((i : ℕ) → i < 64 → p (slice_index_or t i 0) ≡ true) → IsBytes m
    → list_all p (encode_symbols t m) ≡ true
unfolding encode_symbols
encoded_chars p t [] passes bytes = refl
encoded_chars p t (a ∷ []) passes bytes = grind (arith, passes (a / 4), passes (a % 4 * 16), bytes 0)
encoded_chars p t (a ∷ b ∷ []) passes bytes =
    grind (arith, passes (a / 4), passes (a % 4 * 16 + b / 16), passes (b % 16 * 4), bytes 0, bytes 1)
encoded_chars p t (a ∷ b ∷ c ∷ m) passes bytes =
    let rest = encoded_chars p t m passes (λ i. bytes (suc (suc (suc i)))) in
    grind (
      arith,
      passes (a / 4),
      passes (a % 4 * 16 + b / 16),
      passes (b % 16 * 4 + c / 64),
      passes (c % 64),
      bytes 0,
      bytes 1,
      bytes 2,
    )

-- each strict Base64 text is made of characters of values
pub base64_chars : (b : List ℕ) → IsBytes b → list_all is_value_char (strict_base64 b) ≡ true
unfolding strict_base64
base64_chars b bytes =
    encoded_chars is_value_char alphabet b (λ i below. list_all_get is_value_char alphabet i refl (omega arith)) bytes
