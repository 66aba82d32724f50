use Rattle.argon2.proofs.Imports.{arith, common_steps, map-id}
use Rattle.argon2.proofs.context.Argon2.fill_memory_with_words.Goals as goal

pub returns-in_err-check_filling : goal.returns-in_err-check_filling
returns-in_err-check_filling c = grind (arith, common_steps)

pub returns : goal.returns
returns c =
    let filled = rw (c.new-context.ensures.value, map-id c.args.memory.now, map-id c.fill_blocks.new.memory)
    at c.fill_blocks.ensures.filled in
    record { answer = grind (arith, common_steps); matrix = filled.matrix; rest = filled.rest; same = tt }
