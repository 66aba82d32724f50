use Rattle.argon2.proofs.Imports.{ℕ, List, length, ap, ◌∙◌, map-id, bytes_of, long_hash}
use Rattle.argon2.proofs.context_lemmas.LastColumn.{last_of_front}
use Rattle.argon2.proofs.context.Argon2.finish_fill.Goals as goal

pub returns : goal.returns
returns c =
    let memory = c.args.memory.now in
    let last = last_of_front (λ (block : List ℕ). block) _ memory _ _ c.block_count.ensures.value c.lane_length.ensures.value in
    rw (c.context-context.ensures.value, map-id memory)
    at (c.write_tag.ensures ∙ ap (λ block. long_hash (length c.args.out.now) (bytes_of block)) last)
