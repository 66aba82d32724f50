use Rattle.argon2.proofs.Imports.{arith, ap, take, ◌∙◌, map-id, block_count, lane_length}
use Rattle.argon2.proofs.LentMemory.{is_begun}
use Rattle.argon2.proofs.context.Argon2.begin_fill.Goals as goal

pub returns-clause-begun : goal.returns-clause-begun
returns-clause-begun c =
    let same = c.context-context.ensures.value in
    let memory = c.args.memory.now in
    let count = c.block_count.ensures.value ∙ ap block_count same in
    let width = c.lane_length.ensures.value ∙ ap lane_length same in
    is_begun c.args.self.now c.block_count.result c.lane_length.result count width memory c.begin.new.blocks (grind arith)
    c.context-context.ensures.valid c.context-context.ensures.associated c.args.pwd.now c.args.salt.now c.args.out_len
    (rw (map-id c.begin.new.blocks, map-id (take c.block_count.result memory), same) at c.begin.ensures)
