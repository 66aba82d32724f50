use Rattle.argon2_base.proofs.Imports.{◌≡◌, ◌*◌, length, take, flat_map, w64, to_le_bytes}
use Rattle.argon2_base.proofs.blake2b.le_bytes.Given as goal

abbrev pub invariant-words : goal.invariant-words
invariant-words l = (length l.out ≡ 64) × (take (8 * l.i) l.out ≡ flat_map (to_le_bytes w64) (take l.i l.words))
