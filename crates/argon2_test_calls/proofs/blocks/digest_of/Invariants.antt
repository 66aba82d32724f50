use Rattle.std.proofs.Common.{◌≡◌, ◌*◌}
use Rattle.argon2_test_calls.proofs.blocks.digest_of.Given as goal

abbrev pub invariant-loop-block : goal.invariant-loop-block
invariant-loop-block l = (l.hasher.message_len ≡ 1024 * l.block-index) × (l.hasher.digest_len ≡ 8)
