-- Laws of the mixing of two blocks.
use Rattle.argon2_base.proofs.Imports.{arith, ◌≡◌, ℕ, List, [], ◌∷◌, refl, ap₂, xor_comm, mixed, xor_blocks}

-- the exclusive or of two blocks does not mind their order
pub xor_blocks-comm : (x y : List ℕ) → xor_blocks x y ≡ xor_blocks y x
unfolding xor_blocks
xor_blocks-comm [] [] = refl
xor_blocks-comm [] (b ∷ y) = refl
xor_blocks-comm (a ∷ x) [] = refl
xor_blocks-comm (a ∷ x) (b ∷ y) = ap₂ (λ h t. h ∷ t) (xor_comm a b) (xor_blocks-comm x y)

-- the mixing of two blocks does not mind their order
pub mixed-comm : (x y : List ℕ) → mixed x y ≡ mixed y x
unfolding mixed
mixed-comm x y = grind (arith, xor_blocks-comm)
