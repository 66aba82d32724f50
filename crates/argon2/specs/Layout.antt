-- Blocks in memory, lane after lane, and the sizes of it. RFC 9106 leaves the places to the implementation.
use Rattle.std.specs.Prelude.{ℕ, ◌*◌, ◌/◌, ◌≡◌, ◌^◌, ◌<◌, ◌≤◌, List, ◌+◌, ◌-◌, ◌%◌, map, if◌then◌else◌, Option, Some, None}
use Rattle.std.specs.List.{range_with_len}
use Rattle.argon2.specs.Rfc9106.{Context, FirstColumns, Reference, address_block, address_counter, block_count, block_of, first_block, is_independent, lane_length, reference_of, segment_length}

-- ---- sizes

-- what the costs of a valid context amount to
pub record HasSizes (ctx : Context) : Type 0 where
  pub some_lane : 0 < ctx.p_cost
  pub some_pass : 0 < ctx.t_cost
  pub lanes_below : ctx.p_cost < 16777216
  pub two_columns : 2 ≤ segment_length ctx
  pub in_memory : ctx.p_cost * (4 * segment_length ctx) ≤ ctx.m_cost
  pub m_cost : ctx.m_cost < 2 ^ 32
  pub t_cost : ctx.t_cost < 2 ^ 32

-- one of the sizes of such a context
pub record IsSize (of : Context → ℕ) (ctx : Context) (n : ℕ) : Type 0 where
  pub value : n ≡ of ctx
  pub sizes : HasSizes ctx

-- ---- places

-- blocks, lane after lane
abbrev pub Memory : Type 0
Memory = List (List ℕ)

-- the place of a block
abbrev pub place_of : Context → Reference → ℕ
place_of ctx from = from.lane * lane_length ctx + from.column

-- the place of the block that the block of a pass, a lane and a column refers to
unfoldable pub reference_places : Context → FirstColumns → ℕ → ℕ → ℕ → ℕ
reference_places ctx first pass lane column =
    place_of ctx (reference_of ctx (block_of ctx first) pass lane column)

-- the blocks of the last pass
unfoldable pub matrix : Context → FirstColumns → List (List ℕ)
matrix ctx first =
    let last = ctx.t_cost - 1 in
    map (λ place. block_of ctx first last (place / lane_length ctx) (place % lane_length ctx))
    (range_with_len 0 (block_count ctx))

-- the memory after the last pass, for a tag of n bytes
unfoldable pub matrix_of : Context → List ℕ → List ℕ → ℕ → List (List ℕ)
matrix_of ctx password salt n = matrix ctx (first_block ctx password salt n)

-- ---- what a fill keeps and finds

-- a lane that the block may refer to: in the first slice of pass 0 only the block's own lane
pub record MayReferTo (ctx : Context) (pass lane column other : ℕ) : Type 0 where
  pub within : other < ctx.p_cost
  pub alone : pass ≡ 0 → column / segment_length ctx ≡ 0 → other ≡ lane

-- the address block with the word of an index of a segment, in a slice that has address blocks
unfoldable pub addresses_at : Context → ℕ → ℕ → ℕ → ℕ → Option (List ℕ)
addresses_at ctx pass lane slice index =
    if is_independent ctx pass slice
    then Some (address_block ctx pass lane slice (address_counter index))
    else None
