use Rattle.argon2_base.proofs.Imports.{◌≡◌, ℕ, List, ◌*◌, length, take, chain}
use Rattle.argon2_base.proofs.blake2b_lemmas.Pieces.{first_halves}
use Rattle.argon2_base.proofs.blake2b_long.write_pieces.Given as goal

abbrev pub invariant-pieces : goal.invariant-pieces
invariant-pieces l = (length l.current ≡ 64)
    × ((first : List ℕ) → l.fn.start ≡ chain first 1
    → (l.current ≡ chain first l.i) × (take (32 * l.i) l.out ≡ first_halves first l.i))
