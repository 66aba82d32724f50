use Rattle.std.proofs.Common.{◌≡◌, ◌*◌}
use Rattle.argon2_test_calls.proofs.blocks.digest_of_places.Given as goal

abbrev pub invariant-loop-place : goal.invariant-loop-place
invariant-loop-place l = (l.hasher.message_len ≡ 4 * l.place-index) × (l.hasher.digest_len ≡ 8)
