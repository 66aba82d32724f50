-- The memory slice after slice, in each slice lane after lane, and the parts of it on which a segment is filled.
use Rattle.std.specs.Prelude.{◌≡◌, ◌≢◌, ◌⊎◌, ℕ, suc, ◌+◌, ◌-◌, ◌*◌, ◌/◌, ◌<◌, ◌≤◌, List, [], drop, length, slice_index_or, take}
use Rattle.argon2.specs.Rfc9106.{Context, FirstColumns, block_of, lane_length, segment_length, xor_lanes}
use Rattle.argon2.specs.Layout.{Memory, HasSizes}
use Rattle.argon2.specs.WatchedFilling.{HasBlocksUpTo, columns_before}

-- the blocks of a slice
abbrev pub slice_length : Context → ℕ
slice_length ctx = ctx.p_cost * segment_length ctx

-- ---- the parts

-- There is such a segment, and these are the lengths of the slices before it, of the segment, and of the slices
-- after it.
pub record AreLengths (ctx : Context) (slice lane before own after : ℕ) : Type 0 where
  pub in_slices : slice < 4
  pub in_lanes : lane < ctx.p_cost
  pub is_before : before ≡ slice * slice_length ctx
  pub is_own : own ≡ segment_length ctx
  pub is_after : after ≡ (3 - slice) * slice_length ctx

-- The parts are parts of a memory, whose blocks lie there lane after lane. They leave out the other lanes' blocks of the slice.
pub record AreParts (ctx : Context) (slice lane : ℕ) (memory before own after : Memory) : Type 0 where
  pub in_before : (k l i : ℕ) → k < slice → l < ctx.p_cost → i < segment_length ctx →
      slice_index_or before ((k * ctx.p_cost + l) * segment_length ctx + i) []
      ≡ slice_index_or memory (l * lane_length ctx + (k * segment_length ctx + i)) []
  pub in_own : (i : ℕ) → i < segment_length ctx → slice_index_or own i []
      ≡ slice_index_or memory (lane * lane_length ctx + (slice * segment_length ctx + i)) []
  pub in_after : (k l i : ℕ) → slice < k → k < 4 → l < ctx.p_cost → i < segment_length ctx →
      slice_index_or after (((k - suc slice) * ctx.p_cost + l) * segment_length ctx + i) []
      ≡ slice_index_or memory (l * lane_length ctx + (k * segment_length ctx + i)) []

-- a block that a step of a lane may read: one of the lane, or of another slice
pub record IsPlaceFor (ctx : Context) (lane column other place : ℕ) : Type 0 where
  pub in_lanes : other < ctx.p_cost
  pub in_columns : place < lane_length ctx
  pub apart : (other ≡ lane) ⊎ (place / segment_length ctx ≢ column / segment_length ctx)

-- ---- what calls write

-- The costs are not refused. Columns 0 and 1 of each lane are written, where a lane has `width` blocks. All other blocks are as
-- before.
pub record BeginsLanes (ctx : Context) (width : ℕ) (first : FirstColumns) (old new : Memory) : Type 0 where
  pub sizes : HasSizes ctx
  pub size : length new ≡ length old
  pub columns : (lane column : ℕ) → lane < ctx.p_cost → column < 2 →
      slice_index_or new (lane * width + column) [] ≡ first lane column
  pub others : (lane column : ℕ) → lane < ctx.p_cost → 2 ≤ column → column < width →
      slice_index_or new (lane * width + column) [] ≡ slice_index_or old (lane * width + column) []

-- the same on the first slice, in which each lane has the columns of one segment
abbrev pub BeginsSlices : Context → FirstColumns → Memory → Memory → Type 0
BeginsSlices ctx first old new = BeginsLanes ctx (segment_length ctx) first old new

-- If the parts are parts of a memory in which all slices before this slice are made, then the segment is made.
pub record FillsSegment (ctx : Context) (pass slice lane : ℕ) (before old new after : Memory) : Type 0
  where
    pub size : length new ≡ length old
    pub made : (first : FirstColumns) (memory : Memory) →
        AreParts ctx slice lane memory before old after →
        HasBlocksUpTo ctx first pass (λ _. columns_before ctx pass slice) memory →
        (index : ℕ) → index < segment_length ctx →
        slice_index_or new index [] ≡ block_of ctx first pass lane (slice * segment_length ctx + index)

-- the exclusive or of the last column, which is in the last slice
abbrev pub last_of_slice : Context → Memory → List ℕ
last_of_slice ctx last =
    xor_lanes ctx (λ lane. slice_index_or last (lane * segment_length ctx + (segment_length ctx - 1)) [])

-- ---- all calls of a hash, on one memory

-- the slices before one
abbrev pub slices_before : Context → ℕ → Memory → Memory
slices_before ctx slice memory = take (slice * slice_length ctx) memory

-- the segment of a lane in it
abbrev pub segment_in : Context → ℕ → ℕ → Memory → Memory
segment_in ctx slice lane memory =
    take (segment_length ctx) (drop (slice * slice_length ctx + lane * segment_length ctx) memory)

-- the slices after it
abbrev pub slices_after : Context → ℕ → Memory → Memory
slices_after ctx slice memory = drop (suc slice * slice_length ctx) memory

-- A memory, as it is when each slice of each pass begins, whose first slice was begun, and in which each segment was
-- filled once, slice by slice, on the parts of that memory; nothing else was written.
pub record IsFilledBySegments (ctx : Context) (first : FirstColumns) (memory : ℕ → ℕ → Memory) : Type 0
  where
    pub begins : (old : Memory) × BeginsSlices ctx first old (take (slice_length ctx) (memory 0 0))
    pub fills : (pass slice lane : ℕ) → pass < ctx.t_cost → slice < 4 → lane < ctx.p_cost →
        FillsSegment ctx pass slice lane (slices_before ctx slice (memory pass slice))
        (segment_in ctx slice lane (memory pass slice))
        (segment_in ctx slice lane (memory pass (suc slice)))
        (slices_after ctx slice (memory pass slice))
    pub before : (pass slice : ℕ) → pass < ctx.t_cost → slice < 4 →
        slices_before ctx slice (memory pass (suc slice)) ≡ slices_before ctx slice (memory pass slice)
    pub after : (pass slice : ℕ) → pass < ctx.t_cost → slice < 4 →
        slices_after ctx slice (memory pass (suc slice)) ≡ slices_after ctx slice (memory pass slice)
    pub next : (pass : ℕ) → suc pass < ctx.t_cost → memory (suc pass) 0 ≡ memory pass 4
