-- The last column of a memory that is the matrix, and the tag.
use Rattle.argon2.proofs.Imports.{refl, ◌≡◌, ℕ, ◌+◌, ◌-◌, ◌*◌, ◌<◌, List, [], map, take, fold, sym, ap, ◌∙◌, arith, slice_index_or, range_with_len, take-map, get_or-map-range_with_len}
use Rattle.argon2.proofs.Imports.{length-map-range_with_len, fill_by_all, div-mul-add, mod-mul-add, mul-add-lt, long_hash, Context, FirstColumns, block_count, block_of, first_block}
use Rattle.argon2.proofs.Imports.{lane_length, last_block, tag_of, xor_lanes, Memory, HasSizes, matrix, matrix_of, bytes_of, xor_blocks, zero_block, blocks_of, last_column}

-- the matrix has the last pass's blocks at their places
matrix_at : (ctx : Context) → HasSizes ctx → (first : FirstColumns) (lane column : ℕ)
    → lane < ctx.p_cost → column < lane_length ctx
    → slice_index_or (matrix ctx first) (lane * lane_length ctx + column) [] ≡ block_of ctx first (ctx.t_cost - 1) lane column
unfolding matrix
matrix_at ctx sizes first lane column a b =
    let q = lane_length ctx in
    let n = lane * q + column in
    let below : n < q * ctx.p_cost = mul-add-lt lane q column ctx.p_cost a b in
    get_or-map-range_with_len _ 0 (block_count ctx) n n [] (omega arith) (omega arith)
    ∙ rw (div-mul-add lane q column b, mod-mul-add lane q column b) refl

-- equal blocks of each lane have one exclusive or
pub xor_lanes_cong : (ctx : Context) (f g : ℕ → List ℕ)
    → ((lane : ℕ) → lane < ctx.p_cost → f lane ≡ g lane) → xor_lanes ctx f ≡ xor_lanes ctx g
unfolding xor_lanes
xor_lanes_cong ctx f g h =
    ap (fold xor_blocks zero_block)
    (fill_by_all g (map f (range_with_len 0 ctx.p_cost)) ctx.p_cost [] (length-map-range_with_len f 0 ctx.p_cost)
    (λ k lt. get_or-map-range_with_len f 0 ctx.p_cost k k [] lt (omega arith) ∙ h k lt))

-- the last column of the first blocks, by their lanes
pub last_of_front : {B : Type 0} (words : B → List ℕ) (ctx : Context) (memory : List B) (count width : ℕ)
    → count ≡ block_count ctx → width ≡ lane_length ctx
    → xor_lanes ctx (λ lane. slice_index_or (map words (take count memory)) (lane * width + (width - 1)) [])
    ≡ last_column ctx (blocks_of ctx (map words memory))
last_of_front words ctx memory count width all wide =
    rw (wide, all) (ap (last_column ctx) (sym (take-map words (block_count ctx) memory)))

-- the hash of the matrix's last column is the tag
pub tag_of_matrix : (ctx : Context) → HasSizes ctx → (password salt : List ℕ) (n : ℕ) (memory : Memory) → memory
    ≡ matrix_of ctx password salt n
    → long_hash n (bytes_of (last_column ctx memory)) ≡ tag_of ctx password salt n
unfolding matrix_of tag_of last_block
tag_of_matrix ctx sizes password salt n memory e =
    let two = sizes.two_columns in
    rw e (ap (λ block. long_hash n (bytes_of block)) (xor_lanes_cong ctx _ _
    (λ lane h. matrix_at ctx sizes (first_block ctx password salt n) lane (lane_length ctx - 1) h (omega arith))))
