-- How long a tag is that fits into a text, and that it is of bytes.
use Rattle.argon2.proofs.Imports.{common_steps, ◌-◌, ◌≡◌, ℕ, zero, suc, ◌+◌, ◌*◌, ◌≤◌, List, [], ◌∷◌, ◌++◌, length, refl, arith, length-take, flat_map, IsBytes, blake2b, blocks}
use Rattle.argon2.proofs.Imports.{compress, hash_blocks, initial_state, bytes_of, Context, first_block, last_block, tag_of, length-append, w32}
use Rattle.std.specs.Int.{w64, to_le_bytes, bytes_low_first}
use Rattle.argon2_base.proofs.blake2b_lemmas.Pieces.{long_hash_short}

-- ---- digests

IsBytes-low_first : (i k n : ℕ) → IsBytes (bytes_low_first i k n)
IsBytes-low_first i zero n j = omega arith
IsBytes-low_first i (suc k) n zero = grind arith
IsBytes-low_first i (suc k) n (suc j) = IsBytes-low_first (suc i) k n j

-- the bytes of words
IsBytes-words : (ws : List ℕ) → IsBytes (flat_map (to_le_bytes w64) ws)
IsBytes-words [] i = omega arith
IsBytes-words (w ∷ ws) i = grind (arith, common_steps, IsBytes-low_first 0 8 w i, IsBytes-words ws (i - 8))

length-words : (ws : List ℕ) → length (flat_map (to_le_bytes w64) ws) ≡ 8 * length ws
length-words [] = refl
length-words (w ∷ ws) = omega (arith, length-append (to_le_bytes w64 w) (flat_map (to_le_bytes w64) ws), length-words ws)

-- a hash value has 8 words
length-hash_blocks : (l t : ℕ) (h : List ℕ) (bs : List (List ℕ)) → length h ≡ 8 → length (hash_blocks l t h bs) ≡ 8
unfolding hash_blocks compress
length-hash_blocks l t h [] e = e
length-hash_blocks l t h (b ∷ []) e = refl
length-hash_blocks l t h (b ∷ c ∷ bs) e = length-hash_blocks l (t + 128) _ (c ∷ bs) refl

HasBytes-digest : (n : ℕ) (m : List ℕ) → n ≤ 64 → IsBytes (blake2b n m) × (length (blake2b n m) ≡ n)
unfolding blake2b
HasBytes-digest n m h =
    let value : List ℕ = hash_blocks (length m) 0 (initial_state n) (blocks m) in
    let words : length value ≡ 8 = length-hash_blocks (length m) 0 (initial_state n) (blocks m) refl in
    let bytes : List ℕ = flat_map (to_le_bytes w64) value in
    (λ i. grind (arith, common_steps, IsBytes-words value i), omega (arith, length-take n bytes, length-words value, words, h))

-- ---- tags

-- a tag of at most 64 bytes
pub tag_bytes : (ctx : Context) (password salt : List ℕ) (n : ℕ) → n ≤ 64
    → IsBytes (tag_of ctx password salt n) × (length (tag_of ctx password salt n) ≡ n)
unfolding tag_of
tag_bytes ctx password salt n h =
    let last : List ℕ = bytes_of (last_block ctx (first_block ctx password salt n)) in
    rw (long_hash_short n last (blake2b n (to_le_bytes w32 n ++ last)) h refl) at
    (HasBytes-digest n (to_le_bytes w32 n ++ last) h)
