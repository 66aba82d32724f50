use Rattle.argon2.proofs.Imports.{length, ap, ◌∙◌, bytes_of, long_hash}
use Rattle.argon2.proofs.context_lemmas.LastColumn.{last_of_front, tag_of_matrix}
use Rattle.argon2.proofs.context.Argon2.hash.Goals as goal

pub returns-clause-tag : goal.returns-clause-tag
returns-clause-tag g c =
    let filled = c.fill_blocks.ensures.filled in
    rw c.new-context.ensures.value at (c.write_tag.ensures
    ∙ ap (λ block. long_hash (length c.args.out.now) (bytes_of block))
    (last_of_front g.B.MemoryBlock.words _ _ _ _ c.block_count.ensures.value c.lane_length.ensures.value)
    ∙ tag_of_matrix _ filled.sizes c.args.pwd.now c.args.salt.now _ _ filled.matrix)
