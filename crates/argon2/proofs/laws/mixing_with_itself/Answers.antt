use Rattle.argon2.proofs.Imports.{◌≡◌, ℕ, List, [], ◌∷◌, ◌∙◌, length, refl, ap, ap₂, replicate, add_mul, by_columns, by_rows, column, gb, mix_columns, mix_diagonals, mixed, perm, row}
use Rattle.argon2.proofs.Imports.{xor_blocks, xor_rotate, zero_block}
use Rattle.std.specs.Int.Bits.{xor_self}
use Rattle.argon2.proofs.laws.mixing_with_itself.Goals as goal

-- the exclusive or of words with themselves is zeros
xor_blocks-self : (x : List ℕ) → xor_blocks x x ≡ replicate (length x) 0
unfolding xor_blocks
xor_blocks-self [] = refl
xor_blocks-self (w ∷ x) = ap₂ (λ h t. h ∷ t) (xor_self w) (xor_blocks-self x)

-- zeros are mixed to zeros
mixed_zeros : xor_blocks (by_columns (by_rows zero_block)) zero_block ≡ zero_block
unfolding xor_blocks zero_block by_columns by_rows column row perm mix_columns mix_diagonals gb xor_rotate add_mul
mixed_zeros = refl

pub returns : goal.returns
unfolding zero_block mixed
returns c = λ x size.
    ap (λ r. xor_blocks (by_columns (by_rows r)) r) (xor_blocks-self x ∙ ap (λ n. replicate n 0) size) ∙ mixed_zeros
