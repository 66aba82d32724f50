use Rattle.std.proofs.Common.{◌≡◌}
use Rattle.argon2.specs.Argon2.{context_of}
use Rattle.argon2.specs.Hashing.{KeepsRest, blocks_of}
use Rattle.argon2.specs.Steps.{run_passes, run_slices}
use Rattle.argon2_example_uses.specs.Scheduler.{lanes_in_rounds}
use Rattle.argon2_example_uses.proofs.scheduler.hash_in_rounds.Given as goal

abbrev pub invariant-loop-pass : goal.invariant-loop-pass
invariant-loop-pass l =
    let ctx = context_of l.argon2 in
    record {
      blocks : blocks_of ctx l.memory ≡ run_passes ctx (lanes_in_rounds ctx) l.pass (blocks_of ctx l.initial.memory);
      rest : KeepsRest ctx l.fn.memory l.memory;
    }

abbrev pub invariant-loop-slice : goal.invariant-loop-slice
invariant-loop-slice l =
    let ctx = context_of l.argon2 in
    record {
      blocks : blocks_of ctx l.memory
          ≡ run_slices ctx (lanes_in_rounds ctx l.pass) l.pass l.slice (blocks_of ctx l.initial.memory);
      rest : KeepsRest ctx l.fn.memory l.memory;
    }
