use Rattle.argon2.proofs.Imports.{◌≡◌, ◌+◌, ◌-◌, ◌*◌, map, segment_length, addresses_at, address_mixings, columns_before, in_order, Fills, Watches}
use Rattle.argon2.proofs.context.inputs.Context.fill_columns.Given as goal

-- the address block at hand serves the index before
abbrev pub invariant-loop-index : goal.invariant-loop-index
invariant-loop-index g l =
    let blocks = map g.B.MemoryBlock.words in
    record {
      filled : Fills l.self l.pass (in_order l.self l.pass l.slice l.lane (columns_before l.self l.pass l.slice))
          (in_order l.self l.pass l.slice l.lane (l.slice * segment_length l.self + l.index)) (blocks l.fn.memory)
          (blocks l.memory)
          l.fn.watch.positions.now l.watch.positions.now;
      addresses : l.addresses ≡ addresses_at l.self l.pass l.lane l.slice (l.index - 1);
      watched : Watches (address_mixings l.self l.pass l.slice (l.index - 1) + (l.index - l.start)) l.fn.watch l.watch;
    }
