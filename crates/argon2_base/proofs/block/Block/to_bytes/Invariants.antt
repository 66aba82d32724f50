use Rattle.argon2_base.proofs.Imports.{◌≡◌, ◌*◌, length, take, bytes_of}
use Rattle.argon2_base.proofs.block.Block.to_bytes.Given as goal

abbrev pub invariant-words : goal.invariant-words
invariant-words l = record {
  place : l.at ≡ 8 * l.word-index;
  long : length l.out ≡ 1024;
  done : take l.at l.out ≡ bytes_of (take l.word-index l.word-items);
}
