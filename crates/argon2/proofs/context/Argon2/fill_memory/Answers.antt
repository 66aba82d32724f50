use Rattle.argon2.proofs.Imports.{map-id}
use Rattle.argon2.proofs.context.Argon2.fill_memory.Goals as goal

pub returns-clause-filled : goal.returns-clause-filled
returns-clause-filled c =
    let filled = rw (c.context.ensures.value, map-id c.args.memory.now, map-id c.fill_blocks.new.memory) at
    c.fill_blocks.ensures.filled in
    record { matrix = filled.matrix; rest = filled.rest }
