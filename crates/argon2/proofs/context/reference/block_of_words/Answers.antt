use Rattle.argon2.proofs.Imports.{◌++◌, length, drop, replicate, ap, ◌∙◌, drop-replicate}
use Rattle.argon2.proofs.context.reference.block_of_words.Goals as goal

pub returns : goal.returns
returns c =
    let words = c.args.words.now in
    c.block.ensures
    ∙ ap (λ front. front ++ drop (length words) (replicate 128 0)) c.copy_from_slice.ensures.after
    ∙ ap (λ rest. words ++ rest) (drop-replicate (length words) 128 0)
