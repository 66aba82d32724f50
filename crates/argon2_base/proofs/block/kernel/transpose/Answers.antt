use Rattle.argon2_base.proofs.Imports.{◌≡◌, ◌∙◌, [], ◌∷◌, ap, refl, row_in_fours, vector_words}
use Rattle.argon2_base.proofs.block_lemmas.ChainLemmas.{transposed, fours_of_transposed, vectors_of_transposed}
use Rattle.argon2_base.proofs.block.kernel.transpose.Goals as goal

pub returns : goal.returns
returns c =
    let x = c.args.x in
    let low = c.exchange_fours.ensures in
    let high = c.exchange_fours-2.ensures in
    let even = c.exchange_halves.ensures in
    let odd = c.exchange_halves-2.ensures in
    let whole : c.exchange_halves.result.0 ∷ c.exchange_halves-2.result.0 ∷ c.exchange_halves.result.1
    ∷ c.exchange_halves-2.result.1 ∷ []
    ≡ transposed x = rw (even.left, even.right, odd.left, odd.right) (rw (low.left, low.right, high.left, high.right) refl) in
    record {
      to_fours = λ i h. ap (row_in_fours i) whole ∙ fours_of_transposed x i h;
      to_vectors = λ i h. ap (vector_words i) whole ∙ vectors_of_transposed x i h;
    }
