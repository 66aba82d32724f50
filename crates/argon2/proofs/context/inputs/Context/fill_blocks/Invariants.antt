use Rattle.argon2.proofs.Imports.{◌+◌, ◌*◌, map, first_block, IsFilledUpTo, Watches, columns_before, in_order, segment_calls, slices_calls}
use Rattle.argon2.proofs.context_lemmas.Counts.{passes_calls}
use Rattle.argon2.proofs.context.inputs.Context.fill_blocks.Given as goal

abbrev pub invariant-loop-pass : goal.invariant-loop-pass
invariant-loop-pass g l =
    let first = first_block l.self l.pwd l.salt l.out_len in
    record {
      filled : IsFilledUpTo l.self first l.pass (λ _. columns_before l.self l.pass 0) (map g.B.MemoryBlock.words l.blocks)
          l.fn.watch.positions.now l.watch.positions.now;
      watched : Watches (passes_calls l.self l.pass) l.fn.watch l.watch;
    }

abbrev pub invariant-loop-slice : goal.invariant-loop-slice
invariant-loop-slice g l =
    let first = first_block l.self l.pwd l.salt l.out_len in
    record {
      filled : IsFilledUpTo l.self first l.pass (λ _. columns_before l.self l.pass l.slice) (map g.B.MemoryBlock.words l.blocks)
          l.fn.watch.positions.now l.watch.positions.now;
      watched : Watches (passes_calls l.self l.pass + slices_calls l.self l.pass l.slice) l.fn.watch l.watch;
    }

abbrev pub invariant-loop-lane : goal.invariant-loop-lane
invariant-loop-lane g l =
    let first = first_block l.self l.pwd l.salt l.out_len in
    record {
      filled : IsFilledUpTo l.self first l.pass (in_order l.self l.pass l.slice l.lane (columns_before l.self l.pass l.slice))
          (map g.B.MemoryBlock.words l.blocks) l.fn.watch.positions.now l.watch.positions.now;
      watched : Watches (passes_calls l.self l.pass + slices_calls l.self l.pass l.slice + l.lane * segment_calls l.self
          l.pass l.slice)
          l.fn.watch l.watch;
    }
