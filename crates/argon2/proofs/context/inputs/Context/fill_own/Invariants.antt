use Rattle.argon2.proofs.Imports.{◌≡◌, ◌+◌, ◌-◌, ◌*◌, length, FirstColumns, segment_length, Memory, addresses_at, AreParts, HasBlocksUpTo, columns_before}
use Rattle.argon2.proofs.context_lemmas.SegmentParts.{ahead}
use Rattle.argon2.proofs.context.inputs.Context.fill_own.Given as goal

-- the address block at hand serves the index before
abbrev pub invariant-loop-index : goal.invariant-loop-index
invariant-loop-index l = record {
  size : length l.own ≡ length l.fn.own;
  filled : (first : FirstColumns) (memory : Memory) → AreParts l.self l.fn.at.slice l.fn.at.lane memory l.before l.fn.own l.after
      → HasBlocksUpTo l.self first l.fn.at.pass (λ _. columns_before l.self l.fn.at.pass l.fn.at.slice) memory
      → (new : Memory) × (AreParts l.self l.fn.at.slice l.fn.at.lane new l.before l.own l.after
      × HasBlocksUpTo l.self first l.fn.at.pass
      (ahead l.self l.fn.at.pass l.fn.at.slice l.fn.at.lane (l.fn.at.slice * segment_length l.self + l.index)) new);
  addresses : l.addresses ≡ addresses_at l.self l.fn.at.pass l.fn.at.lane l.fn.at.slice (l.index - 1);
}
