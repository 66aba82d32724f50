-- Where lanes end in a memory, and what a step reads of it, by places.
use Rattle.argon2.proofs.Imports.{◌≡◌, ℕ, ◌+◌, ◌*◌, ◌<◌, ◌&&◌, List, [], length, map, refl, sym, ap, ◌∙◌, arith, slice_index, slice_index_or, nat_lt, ◌==◌, if◌then◌else◌, mul-add-lt}
use Rattle.argon2.proofs.Imports.{nat_tests, get_or-map, xor_blocks-comm, mixed, xor_blocks, Context, block_count, lane_length, made_block, previous, reference, reference_of, reference_word}
use Rattle.argon2.proofs.Imports.{Memory, place_of, in_memory, previous_place, reference_place, ◌^◌, ◌≤◌, mul-le-mul_left, mul-le-mul_right, HasSizes}

-- the place of a lane and a column is within the memory
pub place_below : (ctx : Context) (lane column : ℕ) → lane < ctx.p_cost → column < lane_length ctx
    → lane * lane_length ctx + column < block_count ctx
place_below ctx lane column a b = let h = mul-add-lt lane (lane_length ctx) column ctx.p_cost a b in omega arith

-- the words of a block that is read stand at its place
pub words_read : {B : Type 0} (words : B → List ℕ) (memory : List B) (place : ℕ) (block : B) → place < length memory
    → block ≡ slice_index_or memory place block → words block ≡ slice_index_or (map words memory) place []
words_read words memory place block below is = ap words is ∙ sym (get_or-map words memory place block [] below)

-- the previous block is at the previous place
pub previous_in_memory : (ctx : Context) (memory : Memory) (pass lane column : ℕ)
    → previous ctx (in_memory ctx memory) pass lane column ≡ slice_index_or memory (previous_place ctx lane column) []
unfolding previous in_memory
previous_in_memory ctx memory pass lane column = grind (arith, nat_tests)

-- so that the first word that is read there is the previous block's
pub first_word_read : {B : Type 0} (words : B → List ℕ) (ctx : Context) (memory : List B) (pass lane column place word : ℕ)
    (other : B)
    → place < length memory → place ≡ previous_place ctx lane column
    → word ≡ slice_index (words (slice_index_or memory place other)) 0
    → word ≡ slice_index (previous ctx (in_memory ctx (map words memory)) pass lane column) 0
first_word_read words ctx memory pass lane column place word other below at first =
    let read = get_or-map words memory place other [] below in
    let before = previous_in_memory ctx (map words memory) pass lane column in
    cc

-- the block that a step makes, of those at their places
pub made_by_places : (ctx : Context) (memory : Memory) (pass lane column word : ℕ)
    → word ≡ reference_word ctx (in_memory ctx memory) pass lane column
    → let block = mixed (slice_index_or memory (previous_place ctx lane column) [])
    (slice_index_or memory (place_of ctx (reference ctx pass lane column word)) []) in
    made_block ctx (in_memory ctx memory) pass lane column
    ≡ (if (ctx.version == 19) && nat_lt 0 pass
    then xor_blocks (slice_index_or memory (lane * lane_length ctx + column) []) block else block)
unfolding made_block reference_of in_memory
made_by_places ctx memory pass lane column word is =
    rw (is, ← previous_in_memory ctx memory pass lane column, xor_blocks-comm) refl

-- the place of the reference that a word takes
pub place_by_word : (ctx : Context) (memory : Memory) (pass lane column word : ℕ)
    → word ≡ reference_word ctx (in_memory ctx memory) pass lane column
    → reference_place ctx memory pass lane column ≡ place_of ctx (reference ctx pass lane column word)
unfolding reference_place reference_of
place_by_word ctx memory pass lane column word is = rw is refl

-- a lane ends within the lanes
pub lane_within : (lane width lanes : ℕ) → lane < lanes → lane * width + width ≤ lanes * width
lane_within lane width lanes below =
    let end : (lane + 1) * width ≤ lanes * width = mul-le-mul_right width (omega arith) in omega arith

-- lanes that have no more blocks than they have columns end where a number of 32 bits does
pub lanes_fit : (ctx : Context) (width : ℕ) → width ≤ lane_length ctx → HasSizes ctx → ctx.p_cost * width < 2 ^ 32
lanes_fit ctx width most sizes = omega (arith, mul-le-mul_left ctx.p_cost most, sizes.in_memory, sizes.m_cost)

-- where a lane ends
pub ruleset lane_fits = (lane_within, lanes_fit)
