use Rattle.argon2_base.proofs.Imports.{◌≡◌, ◌+◌, ◌++◌, min, length, take, w32, to_le_bytes, Holds, joined}
use Rattle.argon2_base.proofs.blake2b_long.hasher_of.Given as goal

abbrev pub invariant-inputs : goal.invariant-inputs
invariant-inputs l = record {
  digest_len : l.hasher.digest_len ≡ min l.len 64;
  message_len : l.hasher.message_len ≡ length (joined (take l.input-index l.inputs)) + 4;
  holds : Holds l.hasher (to_le_bytes w32 l.len ++ joined (take l.input-index l.inputs));
}
