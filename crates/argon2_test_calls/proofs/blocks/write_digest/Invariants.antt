use Rattle.std.proofs.Common.{◌≡◌, ◌+◌, length}
use Rattle.argon2_test_calls.proofs.blocks.write_digest.Given as goal

abbrev pub invariant-loop : goal.invariant-loop
invariant-loop l =
    (l.hasher.message_len + length l.rest ≡ length l.message) × (l.hasher.digest_len ≡ length l.out)
