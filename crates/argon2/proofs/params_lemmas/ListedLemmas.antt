-- What parameters are listed as is in the grammar.
use Rattle.argon2.proofs.Imports.{◌≡◌, ℕ, ◌+◌, ◌^◌, ◌<◌, ◌≤◌, true, List, [], ◌∷◌, length, refl, arith, le-leb, decimal, list_all, sum_by, sum_by-cons, IsBytes, is_value, is_value_char}
use Rattle.argon2.proofs.Imports.{strict_base64, Pair, are_params, params_text, is_param, are_distinct, item, parameter_items, length-strict_base64, length-append}
use Rattle.std.proofs.lemmas.Fmt.{decimal_nonempty, length-decimal-le}
use Rattle.argon2_base.proofs.phc_lemmas.ValueCharacters.{decimal_chars, base64_chars}

-- a cost under its name
abbrev pub cost_item : List ℕ → ℕ → Pair
cost_item name n = (name, decimal n)

-- 1 to 64 characters of values are a value
value_from : (s : List ℕ) → 1 ≤ length s → length s ≤ 64 → list_all is_value_char s ≡ true → is_value s ≡ true
value_from s low high chars = rw (le-leb 1 (length s) low, le-leb (length s) 64 high, chars) refl

-- a cost has at most ten digits
length-cost : (n : ℕ) → n < 2 ^ 32 → length (decimal n) ≤ 10
length-cost n h = length-decimal-le 10 n (omega arith) (omega arith) (omega arith)

decimal_value : (n : ℕ) → n < 2 ^ 32 → is_value (decimal n) ≡ true
decimal_value n h =
    value_from (decimal n) (decimal_nonempty n (omega arith)) (omega (arith, length-cost n h)) (decimal_chars n (omega arith))

base64_value : (x : ℕ) (b : List ℕ) → IsBytes (x ∷ b) → length (x ∷ b) ≤ 32 → is_value (strict_base64 (x ∷ b)) ≡ true
base64_value x b bytes h =
    let size = length-strict_base64 (x ∷ b) in
    value_from (strict_base64 (x ∷ b)) (omega arith) (omega arith) (base64_chars (x ∷ b) bytes)

-- each item takes its own length, and at most one `,`
text_length : (ps : List Pair) → length (params_text ps) ≤ sum_by (λ p. length (item p) + 1) ps
text_length [] = omega arith
text_length (p ∷ []) = omega arith
text_length (p ∷ q ∷ ps) =
    let rest = text_length (q ∷ ps) in
    rw sum_by-cons (omega (arith, rest, length-append (item p) (44 ∷ params_text (q ∷ ps))))

-- what the three conditions of the grammar are shown by
good_from : (ps : List Pair) → list_all is_param ps ≡ true → are_distinct ps ≡ true
    → sum_by (λ p. length (item p) + 1) ps ≤ 127 → are_params ps ≡ true
good_from ps each names fits = rw (each, names, le-leb (length (params_text ps)) 127 (omega (arith, fits, text_length ps))) refl

-- what parameters are listed as
pub listed_good : (m t p : ℕ) (k d : List ℕ) → m < 2 ^ 32 → t < 2 ^ 32 → p < 2 ^ 32 → IsBytes k → IsBytes d
    → length k ≤ 8 → length d ≤ 32 → are_params (parameter_items m t p k d) ≡ true
listed_good m t p [] [] hm ht hp bk bd lk ld =
    good_from (parameter_items m t p [] []) (grind (arith, decimal_value)) refl (omega (arith, length-cost))
listed_good m t p (x ∷ k) [] hm ht hp bk bd lk ld =
    good_from (parameter_items m t p (x ∷ k) []) (grind (arith, decimal_value, base64_value)) refl
    (omega (arith, length-cost, length-strict_base64))
listed_good m t p [] (y ∷ d) hm ht hp bk bd lk ld =
    good_from (parameter_items m t p [] (y ∷ d)) (grind (arith, decimal_value, base64_value)) refl
    (omega (arith, length-cost, length-strict_base64))
listed_good m t p (x ∷ k) (y ∷ d) hm ht hp bk bd lk ld =
    good_from (parameter_items m t p (x ∷ k) (y ∷ d)) (grind (arith, decimal_value, base64_value)) refl
    (omega (arith, length-cost, length-strict_base64))
