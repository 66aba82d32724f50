-- The initial hash of the known answers of RFC 9106, section 5.3, which gives it in full.
use Rattle.std.proofs.Common.{◌≡◌, ◌++◌, replicate, refl}
use Rattle.std.specs.Int.{bytes_high_first}
use Rattle.argon2.specs.Rfc9106.{Context, initial_hash}
use Rattle.argon2_test_values.proofs.Computing.{digests}

ctx_rfc : Context
ctx_rfc = record {
  algorithm = 2;
  version = 19;
  m_cost = 32;
  t_cost = 3;
  p_cost = 4;
  secret = replicate 8 3;
  associated = replicate 12 4;
}

initial_hash_value : initial_hash ctx_rfc (replicate 32 1) (replicate 16 2) 32
    ≡ bytes_high_first 32 0x2889de487eb42ae500c0007ed9252f1069eadec40d5765b485de6dc2437a67b8
    ++ bytes_high_first 32 0x546a2f0acc1a0882db8fcf74714b472e94df421a5da1112ffa11434370a1e997
unfolding digests ctx_rfc
initial_hash_value = refl
