-- A block: 128 words of 64 bits, and its 1024 bytes (RFC 9106, section 3.2).
use Rattle.std.specs.Prelude.{ℕ, List, bit_xor, map, replicate, ◌+◌, ◌*◌, ◌/◌, ◌%◌, ◌^◌, slice_index, slice_set}
use Rattle.std.specs.Int.{w64, from_le_bytes, to_le_bytes, rotate_right}
use Rattle.std.specs.List.{flat_map, range_with_len}
use Rattle.std.specs.Simd.{first_chunks}
use Rattle.std.specs.Simd.Lanes.{zip2}

-- the block of zeros
unfoldable pub zero_block : List ℕ
zero_block = replicate 128 0

-- the exclusive or of two blocks, word by word
unfoldable pub xor_blocks : List ℕ → List ℕ → List ℕ
xor_blocks x y = zip2 bit_xor x y

-- the block of 1024 bytes: each word is eight bytes, the low byte first
unfoldable pub words_of : List ℕ → List ℕ
words_of bytes = map (from_le_bytes w64) (first_chunks 8 128 bytes)

-- the bytes of a block, the low byte of each word first
abbrev pub bytes_of : List ℕ → List ℕ
bytes_of words = flat_map (to_le_bytes w64) words

-- The mixing of two blocks, G (RFC 9106, sections 3.5 and 3.6). A block is eight rows of eight
-- registers, and a register is two words: the words of row i and column j stand at 16 * i + 2 * j and
-- the place after it.

-- u + v + 2 * low32(u) * low32(v), where BLAKE2b has u + v
unfoldable pub add_mul : ℕ → ℕ → ℕ
add_mul u v = (u + v + 2 * (u % 2 ^ 32) * (v % 2 ^ 32)) % 2 ^ 64

-- (x xor y) >>> k
unfoldable pub xor_rotate : ℕ → ℕ → ℕ → ℕ
xor_rotate x y k = rotate_right w64 (bit_xor x y) k

-- GB: BLAKE2b's mixing of four words, with no message words
unfoldable pub gb : ℕ → ℕ → ℕ → ℕ → ℕ × ℕ × ℕ × ℕ
gb a b c d =
    let a1 = add_mul a b in
    let d1 = xor_rotate d a1 32 in
    let c1 = add_mul c d1 in
    let b1 = xor_rotate b c1 24 in
    let a2 = add_mul a1 b1 in
    let d2 = xor_rotate d1 a2 16 in
    let c2 = add_mul c1 d2 in
    let b2 = xor_rotate b1 c2 63 in
    (a2, b2, c2, d2)

-- GB on the words at four places
abbrev pub gb_at : ℕ → ℕ → ℕ → ℕ → List ℕ → List ℕ
gb_at i j k l v =
    let m = gb (slice_index v i) (slice_index v j) (slice_index v k) (slice_index v l) in
    slice_set (slice_set (slice_set (slice_set v i m.0) j m.1) k m.2) l m.3

-- GB on each column of sixteen words, read as four rows of four
unfoldable pub mix_columns : List ℕ → List ℕ
mix_columns v = gb_at 3 7 11 15 (gb_at 2 6 10 14 (gb_at 1 5 9 13 (gb_at 0 4 8 12 v)))

-- GB on each diagonal of the same
unfoldable pub mix_diagonals : List ℕ → List ℕ
mix_diagonals v = gb_at 3 4 9 14 (gb_at 2 7 8 13 (gb_at 1 6 11 12 (gb_at 0 5 10 15 v)))

-- P: the permutation of eight registers, which are sixteen words
unfoldable pub perm : List ℕ → List ℕ
perm v = mix_diagonals (mix_columns v)

-- the words of row i
unfoldable pub row : ℕ → List ℕ → List ℕ
row i x = map (λ k. slice_index x (16 * i + k)) (range_with_len 0 16)

-- the words of column j: the two words of its register of each row
unfoldable pub column : ℕ → List ℕ → List ℕ
column j x = map (λ k. slice_index x (16 * (k / 2) + 2 * j + k % 2)) (range_with_len 0 16)

-- P on each row: word k of row i has index 16 * i + k
unfoldable pub by_rows : List ℕ → List ℕ
by_rows x =
    map (λ w. slice_index (perm (row (w / 16) x)) (w % 16)) (range_with_len 0 128)

-- P on each column: word 2 * i + e of column j has index 16 * i + 2 * j + e
unfoldable pub by_columns : List ℕ → List ℕ
by_columns x =
    map (λ w. slice_index (perm (column (w % 16 / 2) x)) (2 * (w / 16) + w % 2))
    (range_with_len 0 128)

-- G: R is the exclusive or of the two blocks; P on its rows, then on its columns; xored with R
unfoldable pub mixed : List ℕ → List ℕ → List ℕ
mixed x y = let r = xor_blocks x y in xor_blocks (by_columns (by_rows r)) r
