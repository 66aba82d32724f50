-- Argon2 in the order of RFC 9106, section 3. The hash H is BLAKE2b (Blake2b.antt), H' of section 3.3 is in LongHash.antt, and
-- G and P of sections 3.5 and 3.6 are in Block.antt. What the standard leaves open, such as the place of a block in memory, is in
-- Layout.antt.
use Rattle.std.specs.Prelude.{ℕ, ◌*◌, ◌/◌, ◌≡◌, ◌^◌, ◌<◌, ◌≤◌, ◌⊎◌, List, length, ◌++◌, zero, suc, ◌+◌, ◌-◌, ◌%◌, ◌&&◌, [], map, take, ◌==◌, slice_index_or, if◌then◌else◌, Bool, ◌||◌, ◌∷◌, replicate, nat_lt, slice_index}
use Rattle.std.specs.Int.{w32, to_le_bytes}
use Rattle.std.specs.List.{range_with_len, fold}
use Rattle.argon2_base.specs.Blake2b.{blake2b}
use Rattle.argon2_base.specs.Block.{bytes_of, mixed, words_of, xor_blocks, zero_block}
use Rattle.argon2_base.specs.LongHash.{long_hash}

-- ---- 3.1. Inputs

-- The inputs except for the password P, the salt S and the length T of the tag, which are separate arguments. Below, `ctx` is a
-- context.
pub record Context : Type 0 where
  pub algorithm : ℕ  -- y: 0 is Argon2d, 1 is Argon2i, 2 is Argon2id
  pub version : ℕ  -- v: 19 (0x13), or 16 (0x10) of the older version
  pub m_cost : ℕ  -- m, in blocks of 1024 bytes
  pub t_cost : ℕ  -- t, passes
  pub p_cost : ℕ  -- p, lanes
  pub secret : List ℕ  -- K
  pub associated : List ℕ  -- X

-- inputs that the section allows
pub record IsValid (ctx : Context) : Type 0 where
  pub lanes : (1 ≤ ctx.p_cost) × (ctx.p_cost < 2 ^ 24)
  pub memory : (8 * ctx.p_cost ≤ ctx.m_cost) × (ctx.m_cost < 2 ^ 32)
  pub passes : (1 ≤ ctx.t_cost) × (ctx.t_cost < 2 ^ 32)
  pub version : (ctx.version ≡ 16) ⊎ (ctx.version ≡ 19)
  pub secret : length ctx.secret < 2 ^ 32
  pub associated : length ctx.associated < 2 ^ 32
  pub algorithm : ctx.algorithm ≤ 2

-- a password and a salt that it allows
abbrev pub AreShort : List ℕ → List ℕ → Type 0
AreShort password salt = (length password < 2 ^ 32) × (length salt < 2 ^ 32)

-- ---- 3.2. Operation, step 1: H_0

-- LE32(n)
abbrev pub number : ℕ → List ℕ
number n = to_le_bytes w32 n

-- an input after its length
abbrev pub with_length : List ℕ → List ℕ
with_length bytes = number (length bytes) ++ bytes

-- H_0 for a tag of n bytes. The memory cost enters it as m, not as m'.
unfoldable pub initial_hash : Context → List ℕ → List ℕ → ℕ → List ℕ
initial_hash ctx password salt n = blake2b 64 (
    number ctx.p_cost ++ number n ++ number ctx.m_cost ++ number ctx.t_cost
    ++ number ctx.version ++ number ctx.algorithm
    ++ with_length password ++ with_length salt ++ with_length ctx.secret ++ with_length ctx.associated)

-- ---- 3.2. Operation, step 2: m' and q

-- the columns of a segment for m and p, q / 4 (section 3.4)
unfoldable pub segment_length_for : ℕ → ℕ → ℕ
segment_length_for m p = m / (4 * p)

-- the columns of a lane for m and p, q
abbrev pub lane_length_for : ℕ → ℕ → ℕ
lane_length_for m p = 4 * segment_length_for m p

-- the blocks of all lanes for m and p, m'
abbrev pub block_count_for : ℕ → ℕ → ℕ
block_count_for m p = p * lane_length_for m p

-- q / 4
abbrev pub segment_length : Context → ℕ
segment_length ctx = segment_length_for ctx.m_cost ctx.p_cost

-- q
abbrev pub lane_length : Context → ℕ
lane_length ctx = lane_length_for ctx.m_cost ctx.p_cost

-- m'
abbrev pub block_count : Context → ℕ
block_count ctx = block_count_for ctx.m_cost ctx.p_cost

-- ---- 3.2. Operation, steps 3 and 4: the first two columns

-- H'^(1024)(H_0 || LE32(column) || LE32(lane))
unfoldable pub block_after : List ℕ → ℕ → ℕ → List ℕ
block_after hash lane column = words_of (long_hash 1024 (hash ++ number column ++ number lane))

-- B[lane][0] and B[lane][1]
unfoldable pub first_block : Context → List ℕ → List ℕ → ℕ → ℕ → ℕ → List ℕ
first_block ctx password salt n lane column = block_after (initial_hash ctx password salt n) lane column

-- ---- the blocks of all passes

-- B[lane][column] after a pass. Passes are kept apart, and nothing is overwritten.
abbrev pub Blocks : Type 0
Blocks = ℕ → ℕ → ℕ → List ℕ

-- B[lane][0] and B[lane][1] in pass 0
abbrev pub FirstColumns : Type 0
FirstColumns = ℕ → ℕ → List ℕ

-- B[lane][column-1], or at column 0 the last of the pass before
unfoldable pub previous : Context → Blocks → ℕ → ℕ → ℕ → List ℕ
previous ctx blocks pass lane zero = blocks (pass - 1) lane (lane_length ctx - 1)
previous ctx blocks pass lane (suc column) = blocks pass lane column

-- ---- 3.4.1. Getting the 32-bit values J_1 and J_2: they are the low and the high half of one word

-- 3.4.1.2. Argon2i: G(ZERO, G(ZERO, Z || LE64(counter) || ZERO))
unfoldable pub address_block : Context → ℕ → ℕ → ℕ → ℕ → List ℕ
address_block ctx pass lane slice counter = mixed zero_block (mixed zero_block
    (pass ∷ lane ∷ slice ∷ block_count ctx ∷ ctx.t_cost ∷ ctx.algorithm ∷ counter
    ∷ replicate 121 0))

-- the words of an address block
abbrev pub address_columns : ℕ
address_columns = 128

-- the counter of the address block with the word of an index of a segment, from 1 on
abbrev pub address_counter : ℕ → ℕ
address_counter index = index / address_columns + 1

-- the word of an index of a segment
unfoldable pub address_word : Context → ℕ → ℕ → ℕ → ℕ → ℕ
address_word ctx pass lane slice index =
    slice_index (address_block ctx pass lane slice (address_counter index))
    (index % address_columns)

-- 3.4.1.3. Argon2id: in the first two slices of pass 0 as Argon2i, which is so in all slices
unfoldable pub is_independent : Context → ℕ → ℕ → Bool
is_independent ctx pass slice =
    (ctx.algorithm == 1) || ((ctx.algorithm == 2) && ((pass == 0) && nat_lt slice 2))

-- J_1 + 2^32 J_2: the address word, or as in 3.4.1.1, Argon2d, the first word of the block before
unfoldable pub reference_word : Context → Blocks → ℕ → ℕ → ℕ → ℕ
reference_word ctx blocks pass lane column =
    let slice = column / segment_length ctx in
    if is_independent ctx pass slice
    then address_word ctx pass lane slice (column % segment_length ctx)
    else slice_index (previous ctx blocks pass lane column) 0

-- ---- 3.4.2. Mapping J_1 and J_2 to the reference block index [l][z]

-- l: J_2 mod p, but in the first slice of pass 0 the block's own lane
unfoldable pub reference_lane : Context → ℕ → ℕ → ℕ → ℕ → ℕ
reference_lane ctx pass lane column word =
    if pass == 0 && (column / segment_length ctx == 0) then lane else (word / 2 ^ 32) % ctx.p_cost

-- a pass's columns from one up to another, without that
unfoldable pub columns : ℕ → ℕ → ℕ → List (ℕ × ℕ)
columns pass from to = map (λ column. (pass, column)) (range_with_len from (to - from))

-- the last three segments that any lane has finished if a slice begins, and in pass 0 those that there are, oldest first
unfoldable pub finished_segments : Context → ℕ → ℕ → List (ℕ × ℕ)
finished_segments ctx zero slice = columns 0 0 (slice * segment_length ctx)
finished_segments ctx (suc pass) slice =
    columns pass ((slice + 1) * segment_length ctx) (lane_length ctx)
    ++ columns (suc pass) 0 (slice * segment_length ctx)

-- W for the block of a pass, a lane and a column: the pairs (pass, column) of the lane l = `other` that it may refer to, oldest
-- first. They are the finished segments, and of the block's own lane this segment up to the block before the previous one. At a
-- segment's start the last of them is left out.
unfoldable pub permitted : Context → ℕ → ℕ → ℕ → ℕ → List (ℕ × ℕ)
permitted ctx pass lane column other =
    let slice = column / segment_length ctx in
    let finished = finished_segments ctx pass slice in
    let own = if other == lane then columns pass (slice * segment_length ctx) (column - 1) else [] in
    if column % segment_length ctx == 0 then take (length finished - 1) finished else (finished ++ own)

-- the index in W by J_1: |W| - 1 - (|W| * (J_1^2 / 2^32)) / 2^32
unfoldable pub reference_index : ℕ → ℕ → ℕ
reference_index count word =
    let low = word % 2 ^ 32 in
    let x = low * low / 2 ^ 32 in
    count - 1 - count * x / 2 ^ 32

-- a block of a pass: z is its column, l its lane
pub record Reference : Type 0 where
  pub pass : ℕ
  pub lane : ℕ
  pub column : ℕ

-- the block that the block of a pass, a lane and a column refers to by a word
unfoldable pub reference : Context → ℕ → ℕ → ℕ → ℕ → Reference
reference ctx pass lane column word =
    let other = reference_lane ctx pass lane column word in
    let blocks = permitted ctx pass lane column other in
    let chosen = slice_index_or blocks (reference_index (length blocks) word) (0, 0) in
    record { pass = chosen.0; lane = other; column = chosen.1 }

-- the block that it refers to, among blocks
unfoldable pub reference_of : Context → Blocks → ℕ → ℕ → ℕ → Reference
reference_of ctx blocks pass lane column =
    reference ctx pass lane column (reference_word ctx blocks pass lane column)

-- ---- 3.2. Operation, steps 5 and 6: the other columns, and further passes

-- G(B[lane][column-1], B[l][z]), among blocks. Version 0x13 xors it with B[lane][column] of the pass before.
unfoldable pub made_block : Context → Blocks → ℕ → ℕ → ℕ → List ℕ
made_block ctx blocks pass lane column =
    let from = reference_of ctx blocks pass lane column in
    let before = previous ctx blocks pass lane column in
    let block = mixed before (blocks from.pass from.lane from.column) in
    if (ctx.version == 19) && nat_lt 0 pass
    then xor_blocks block (blocks (pass - 1) lane column)
    else block

-- B[lane][column] of a pass: by steps 3 and 4 in the first two columns of pass 0, else by step 5 or 6
unfoldable pub rule : Context → FirstColumns → Blocks → ℕ → ℕ → ℕ → List ℕ
rule ctx first blocks pass lane column =
    if (pass == 0) && nat_lt column 2
    then first lane column
    else made_block ctx blocks pass lane column

-- A block of a history: columns in the order of time, each the list of its lanes' blocks. Column c of pass r is the one at
-- r q + c.
unfoldable pub in_history : Context → List (List (List ℕ)) → ℕ → ℕ → ℕ → List ℕ
in_history ctx history pass lane column =
    slice_index_or (slice_index_or history (pass * lane_length ctx + column) []) lane []

-- the first n columns by the rule, each from those before it
unfoldable pub history : Context → FirstColumns → ℕ → List (List (List ℕ))
history ctx first zero = []
history ctx first (suc n) =
    let before = history ctx first n in
    let pass = n / lane_length ctx in
    let column = n % lane_length ctx in
    let block : ℕ → List ℕ = λ lane. rule ctx first (in_history ctx before) pass lane column in
    before ++ map block (range_with_len 0 ctx.p_cost) ∷ []

-- B[lane][column] of a pass
unfoldable pub block_of : Context → FirstColumns → ℕ → ℕ → ℕ → List ℕ
block_of ctx first pass lane column =
    in_history ctx (history ctx first (suc (pass * lane_length ctx + column))) pass lane column

-- ---- 3.2. Operation, steps 7 and 8: the tag

-- the xor over the lanes of a block of each
unfoldable pub xor_lanes : Context → (ℕ → List ℕ) → List ℕ
xor_lanes ctx of_lane = fold xor_blocks zero_block (map of_lane (range_with_len 0 ctx.p_cost))

-- Step 7: C = B[0][q-1] XOR .. XOR B[p-1][q-1] of the last pass
unfoldable pub last_block : Context → FirstColumns → List ℕ
last_block ctx first =
    xor_lanes ctx (λ lane. block_of ctx first (ctx.t_cost - 1) lane (lane_length ctx - 1))

-- Step 8: the tag of n bytes, H'^(n)(C)
unfoldable pub tag_of : Context → List ℕ → List ℕ → ℕ → List ℕ
tag_of ctx password salt n = long_hash n (bytes_of (last_block ctx (first_block ctx password salt n)))
