use Rattle.std.proofs.Common.{◌≡◌, drop, map, take}
use Rattle.argon2.specs.Argon2.{context_of}
use Rattle.argon2.specs.Hashing.{KeepsRest}
use Rattle.argon2_example_uses.specs.Arena.{first_refusal, input_tag}
use Rattle.argon2_example_uses.proofs.arena.hash_all.Given as goal

abbrev pub invariant-loop-i : goal.invariant-loop-i
invariant-loop-i l = record {
  tags : take l.i l.tags ≡ map (input_tag (context_of l.argon2)) (take l.i l.inputs);
  answer : first_refusal l.argon2 l.fn.arena (drop l.i l.inputs) ≡ first_refusal l.argon2 l.fn.arena l.inputs;
  rest : KeepsRest (context_of l.argon2) l.fn.arena l.arena;
}
