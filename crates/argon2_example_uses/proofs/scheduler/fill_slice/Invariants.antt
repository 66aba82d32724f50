use Rattle.std.proofs.Common.{◌≡◌, ◌+◌, ◌-◌}
use Rattle.argon2.specs.Argon2.{context_of}
use Rattle.argon2.specs.Rfc9106.{segment_length}
use Rattle.argon2.specs.Hashing.{KeepsRest, blocks_of}
use Rattle.argon2.specs.Steps.{run}
use Rattle.argon2_example_uses.specs.Scheduler.{lanes_by_round, lanes_in_rounds}
use Rattle.argon2_example_uses.proofs.Rounds.{left}
use Rattle.argon2_example_uses.proofs.scheduler.fill_slice.Given as goal

-- the rounds that are left do what all were to do
abbrev pub invariant-loop-index : goal.invariant-loop-index
invariant-loop-index l =
    let ctx = context_of l.argon2 in
    record {
      rounds : run ctx l.pass l.slice (lanes_by_round ctx.p_cost (segment_length ctx - l.index)) (blocks_of ctx l.memory)
          ≡ run ctx l.pass l.slice (lanes_in_rounds ctx l.pass l.slice) (blocks_of ctx l.fn.memory);
      rest : KeepsRest ctx l.fn.memory l.memory;
    }

-- the turns that are left come to the same
abbrev pub invariant-loop-lane : goal.invariant-loop-lane
invariant-loop-lane l =
    let ctx = context_of l.argon2 in
    record {
      turns : run ctx l.pass l.slice (left ctx l.lane (segment_length ctx - (l.index + 1))) (blocks_of ctx l.memory)
          ≡ run ctx l.pass l.slice (lanes_in_rounds ctx l.pass l.slice) (blocks_of ctx l.fn.memory);
      rest : KeepsRest ctx l.fn.memory l.memory;
    }
