-- Rounds follow one another, and the halves are joined word by word.
use Rattle.argon2_base.proofs.Imports.{arith, ◌≡◌, ℕ, suc, List, map, slice_index, round, rounds, sigma}

-- one more round is done
pub one_more : {before after : List ℕ} (v m : List ℕ) (r : ℕ) → before ≡ rounds v m r
    → after ≡ round before (map (λ k. slice_index m k) (sigma r)) → after ≡ rounds v m (suc r)
unfolding rounds
one_more v m r e step = grind arith
