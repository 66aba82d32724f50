use Rattle.argon2_base.proofs.Imports.{◌≡◌, length, take, map, w64, from_le_bytes}
use Rattle.argon2_base.proofs.block.Block.load.Given as goal

abbrev pub invariant-words : goal.invariant-words
invariant-words l = record {
  long : length l.self-inside.words ≡ 128;
  done : take l.k l.self-inside.words ≡ map (from_le_bytes w64) (take l.k l.pieces);
}
