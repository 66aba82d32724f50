-- Bytes that are compared by the bits in which they differ.
use Rattle.argon2_base.proofs.Imports.{common_steps, ◌≡◌, ℕ, arith, le_or_l, le_or_r}
use Rattle.std.specs.Int.Bits.{bit_or, bit_xor, xor_zero_l, xor_zero_r, xor_self, xor_assoc}
use Rattle.argon2_base.proofs.Imports.{nat_tests, same_number_lists, bytes_eq-Decides}

-- if no difference is noted after two bytes, none was before them, and they are equal
pub no_difference : (d x y : ℕ) → bit_or d (bit_xor x y) ≡ 0 → (d ≡ 0) × (x ≡ y)
no_difference d x y h =
    grind (arith, le_or_l, le_or_r, xor_assoc x y y, xor_zero_l, xor_zero_r, xor_self)

-- equal bytes add no difference
pub difference_none : (d x y : ℕ) → d ≡ 0 → x ≡ y → bit_or d (bit_xor x y) ≡ 0
difference_none d x y h e = grind (arith, common_steps)

-- what a comparison by differences cites
pub ruleset comparison = (no_difference, difference_none, nat_tests, same_number_lists, bytes_eq-Decides)
