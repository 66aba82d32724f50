-- A whole tag: the definition computes to what another implementation gives.
use Rattle.std.proofs.Common.{◌≡◌, ℕ, zero, suc, ◌+◌, ◌-◌, ◌*◌, List, [], ◌++◌, codes, take, arith, refl, ap, ◌∙◌}
use mathlib.Core.Path.{fun_ext}
use Rattle.std.specs.Prelude.{if◌then◌else◌, nat_lt}
use Rattle.std.specs.Int.{w32, to_le_bytes, bytes_high_first}
use Rattle.std.specs.List.{flat_map, range_with_len}
use Rattle.argon2_base.specs.Block.{bytes_of, words_of}
use Rattle.argon2_base.specs.Blake2b.{blake2b}
use Rattle.argon2_base.specs.LongHash.{chain, half, half_count, long_hash}
use Rattle.argon2.specs.Rfc9106.{Context, block_after, first_block, initial_hash, last_block, number, tag_of}
use Rattle.argon2_test_values.proofs.Computing.{digests, last_blocks}

-- the first halves of a chain of digests, each the digest of the one before
halves : ℕ → List ℕ → List ℕ
halves zero v = []
halves (suc r) v = let next = blake2b 64 v in take 32 next ++ halves r next

-- the halves of all pieces are the first halves of the chain
halves_of_chain : (first : List ℕ) (k r : ℕ) → flat_map (half first) (range_with_len (k + 1) r) ≡ halves r (chain first k)
unfolding chain halves
halves_of_chain first k zero = refl
halves_of_chain first k (suc r) =
    let one : k + 1 ≡ suc k = omega arith in
    let next : chain first (k + 1) ≡ blake2b 64 (chain first k) = ap (chain first) one in
    ap (λ t. take 32 (chain first (k + 1)) ++ t) (halves_of_chain first (k + 1) r)
    ∙ ap (λ v. take 32 v ++ halves r v) next

-- the long hash, with each digest made once
long_hash_once : ℕ → List ℕ → List ℕ
long_hash_once n m =
    let first = to_le_bytes w32 n ++ m in
    let r : ℕ = half_count n in
    if nat_lt 64 n then halves r first ++ blake2b (n - 32 * r) (chain first r) else blake2b n first

made_once : (n : ℕ) (m : List ℕ) → long_hash n m ≡ long_hash_once n m
unfolding long_hash chain long_hash_once
made_once n m =
    let first = to_le_bytes w32 n ++ m in
    let r : ℕ = half_count n in
    ap (λ t. if nat_lt 64 n then t ++ blake2b (n - 32 * r) (chain first r) else blake2b n first)
    (halves_of_chain first 0 r)

-- the tag over such first blocks
tag_once : (ctx : Context) (password salt : List ℕ) (n : ℕ)
    → tag_of ctx password salt n ≡ (
    let hash = initial_hash ctx password salt n in
    long_hash_once n (bytes_of (last_block ctx
    (λ lane column. words_of (long_hash_once 1024 (hash ++ number column ++ number lane))))))
unfolding tag_of first_block block_after
tag_once ctx password salt n =
    let hash = initial_hash ctx password salt n in
    made_once n _
    ∙ ap (λ first. long_hash_once n (bytes_of (last_block ctx first)))
    (fun_ext λ lane. fun_ext λ column. ap words_of (made_once 1024 (hash ++ number column ++ number lane)))

-- one lane, and one pass over eight blocks
ctx_argon2id : Context
ctx_argon2id = record {
  algorithm = 2;
  version = 19;
  m_cost = 8;
  t_cost = 1;
  p_cost = 1;
  secret = codes "secret";
  associated = codes "data";
}

known_tag : tag_of ctx_argon2id (codes "password") (codes "somesalt") 32
    ≡ bytes_high_first 32 0x018254e3c239eff6bebb81e68b5355ccf537386553d74828065728b9723a5b54
unfolding digests last_blocks ctx_argon2id halves long_hash_once chain words_of
known_tag = tag_once ctx_argon2id (codes "password") (codes "somesalt") 32 ∙ refl
