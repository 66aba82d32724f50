-- Digests that RFC 7693 and an implementation apart from this one (CPython's hashlib) give: the
-- definitions compute to them.
use Rattle.std.proofs.Common.{◌≡◌, [], ◌++◌, codes, refl}
use Rattle.std.specs.Int.{bytes_high_first}
use Rattle.std.specs.List.{range_with_len}
use Rattle.argon2_base.specs.Blake2b.{blake2b, compress, hash_blocks, mix, round, rounds, words}
use Rattle.argon2_base.specs.LongHash.{chain, long_hash}

-- RFC 7693, appendix A
pub digest_of_abc : blake2b 64 (codes "abc")
    ≡ bytes_high_first 32 0xba80a53f981c4d0d6a2797b69f12f6e94c212f14685ac4b74b12bb6fdbffa2d1
    ++ bytes_high_first 32 0x7d87c5392aab792dc252d5de4533cc9518d38aa8dbf1925ab92386edd4009923
unfolding mix round rounds words compress hash_blocks blake2b
digest_of_abc = refl

-- the empty message is one block of zeros
pub digest_of_nothing : blake2b 64 []
    ≡ bytes_high_first 32 0x786a02f742015903c6c6fd852552d272912f4740e15847618a86e217f71f5419
    ++ bytes_high_first 32 0xd25e1031afee585313896444934eb04b903a685b1448b755d56f701afe9be2ce
unfolding mix round rounds words compress hash_blocks blake2b
digest_of_nothing = refl

-- 128 bytes are one block
pub digest_of_one_block : blake2b 64 (range_with_len 0 128)
    ≡ bytes_high_first 32 0x2319e3789c47e2daa5fe807f61bec2a1a6537fa03f19ff32e87eecbfd64b7e0e
    ++ bytes_high_first 32 0x8ccff439ac333b040f19b0c4ddd11a61e24ac1fe0f10a039806c5dcc0da3d115
unfolding mix round rounds words compress hash_blocks blake2b
digest_of_one_block = refl

-- 129 bytes are two
pub digest_of_two_blocks : blake2b 64 (range_with_len 0 129)
    ≡ bytes_high_first 32 0xf59711d44a031d5f97a9413c065d1e614c417ede998590325f49bad2fd444d3e
    ++ bytes_high_first 32 0x4418be19aec4e11449ac1a57207898bc57d76a1bcf3566292c20c683a5c4648f
unfolding mix round rounds words compress hash_blocks blake2b
digest_of_two_blocks = refl

-- a digest of 20 bytes
pub short_digest : blake2b 20 (range_with_len 0 129)
    ≡ bytes_high_first 20 0xa7bf25f1599102ab631e3052e8303a2c097d1a7e
unfolding mix round rounds words compress hash_blocks blake2b
short_digest = refl

-- pieces of 32, 32 and 36 bytes
pub long_hash_of_abc : long_hash 100 (codes "abc")
    ≡ bytes_high_first 32 0x4c9ba23bcafae5e571a5d41673bb8084a4a1de2688416ed390f669d33d364f3d
    ++ bytes_high_first 32 0x4d9bfa7fe762680c6b2362711c4ce5b2c60ddcd14c1277ec1369c79f44c28966
    ++ bytes_high_first 36 0x98a2b0773a3ce2e410532fa7c72f0bb61ccca0c24c362f337555cbf2998f2d3601be70d1
unfolding mix round rounds words compress hash_blocks blake2b chain long_hash
long_hash_of_abc = refl

-- one piece
pub short_long_hash_of_abc : long_hash 10 (codes "abc")
    ≡ bytes_high_first 10 0x839f627244b691e69e2d
unfolding mix round rounds words compress hash_blocks blake2b chain long_hash
short_long_hash_of_abc = refl
