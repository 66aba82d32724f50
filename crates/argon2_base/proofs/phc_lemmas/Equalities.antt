-- The equalities of lists of parameters and of what PHC texts say: each value equals only itself.
use Rattle.argon2_base.proofs.Imports.{◌≡◌, Bool, ◌&&◌, List, Option, arith, pointwise_decides, bytes_eq, Decides-and, bytes_eq-Decides, Pair, Phc, pairs_eq, phc_eq}
use Rattle.std.specs.Bool.{Decides}
use Rattle.std.specs.Option.{option_eq}

-- two parameters are equal if their names and their values are
pair_eq-Decides : (p q : Pair) → Decides (bytes_eq p.0 q.0 && bytes_eq p.1 q.1) (p ≡ q)
pair_eq-Decides p q = grind (arith, Decides-and, bytes_eq-Decides)

-- two lists are equal if their parameters are
pub pairs_eq-Decides : (ps qs : List Pair) → Decides (pairs_eq ps qs) (ps ≡ qs)
pairs_eq-Decides = pointwise_decides pair_eq-Decides

-- two options are equal if what they hold is
option_eq-Decides : {T : Type 0} {E : T → T → Bool} → ((x y : T) → Decides (E x y) (x ≡ y)) → (o r : Option T)
    → Decides (option_eq E o r) (o ≡ r)
option_eq-Decides decides o r = (grind arith, grind arith)

-- two values are equal if their fields are
pub phc_eq-Decides : (v w : Phc) → Decides (phc_eq v w) (v ≡ w)
phc_eq-Decides v w = grind (arith, Decides-and, bytes_eq-Decides, option_eq-Decides, pairs_eq-Decides)

-- what the test of two values answers
pub equal_phcs : (v w : Phc) (r : Bool) → r ≡ phc_eq v w → Decides r (v ≡ w)
equal_phcs v w r e = grind (arith, phc_eq-Decides)
