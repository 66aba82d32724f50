-- The blocks in one memory, lane after lane, where each block overwrites the block of the pass before; and the orders of the
-- steps that write them.
use Rattle.argon2.specs.Rfc9106.{Context, lane_length, made_block, reference_of, segment_length, xor_lanes}
use Rattle.argon2.specs.Layout.{Memory, place_of}
use Rattle.std.specs.Prelude.{◌≡◌, ℕ, zero, suc, ◌+◌, ◌-◌, ◌*◌, ◌<◌, ◌≤◌, ◌&&◌, List, [], ◌∷◌, ◌==◌, count_by, slice_index_or, slice_set, if◌then◌else◌}
use Rattle.std.specs.List.{AllByRecursion}

-- the block at a lane's and a column's place, whatever the pass
unfoldable pub in_memory : Context → Memory → ℕ → ℕ → ℕ → List ℕ
in_memory ctx memory pass lane column = slice_index_or memory (lane * lane_length ctx + column) []

-- the place of the previous block, which before column 0 is the lane's last
abbrev pub previous_place : Context → ℕ → ℕ → ℕ
previous_place ctx lane column =
    lane * lane_length ctx + (if column == 0 then lane_length ctx - 1 else column - 1)

-- a block that a step writes: any block except columns 0 and 1 of pass 0
pub record IsStep (ctx : Context) (pass lane column : ℕ) : Type 0 where
  pub in_lanes : lane < ctx.p_cost
  pub in_columns : column < lane_length ctx
  pub later : pass ≡ 0 → 2 ≤ column

-- the memory after the block of a pass, a lane and a column is written
unfoldable pub step : Context → Memory → ℕ → ℕ → ℕ → Memory
step ctx memory pass lane column = slice_set memory (lane * lane_length ctx + column)
    (made_block ctx (in_memory ctx memory) pass lane column)

-- the place of the block that the step refers to
unfoldable pub reference_place : Context → Memory → ℕ → ℕ → ℕ → ℕ
reference_place ctx memory pass lane column =
    place_of ctx (reference_of ctx (in_memory ctx memory) pass lane column)

-- the xor of the last column
abbrev pub last_column : Context → Memory → List ℕ
last_column ctx memory =
    let last = lane_length ctx - 1 in
    xor_lanes ctx (λ lane. slice_index_or memory (lane * lane_length ctx + last) [])

-- ---- schedules: the lanes of a slice in the order of their turns

-- the number of turns of a lane
abbrev pub turns : ℕ → List ℕ → ℕ
turns lane schedule = count_by (λ x. x == lane) schedule

-- the number of columns that a lane fills in a slice: a segment, without columns 0 and 1 of pass 0
abbrev pub turn_count : Context → ℕ → ℕ → ℕ
turn_count ctx pass slice =
    if (pass == 0) && (slice == 0) then segment_length ctx - 2 else segment_length ctx

-- a list of lanes in which each lane stands as often as it has columns to fill
pub record IsSchedule (ctx : Context) (pass slice : ℕ) (schedule : List ℕ) : Type 0 where
  pub lanes : AllByRecursion (λ lane. lane < ctx.p_cost) schedule
  pub turns : (lane : ℕ) → lane < ctx.p_cost → turns lane schedule ≡ turn_count ctx pass slice

-- The steps of a slice in the schedule's order, each lane's columns ascending: a lane's last turn
-- takes the segment's last column, and one with n more turns after it the column n before that.
unfoldable pub run : Context → ℕ → ℕ → List ℕ → Memory → Memory
run ctx pass slice [] memory = memory
run ctx pass slice (lane ∷ schedule) memory =
    let column = (slice + 1) * segment_length ctx - suc (turns lane schedule) in
    run ctx pass slice schedule (step ctx memory pass lane column)

-- the first slices of a pass, each by its schedule
unfoldable pub run_slices : Context → (ℕ → List ℕ) → ℕ → ℕ → Memory → Memory
run_slices ctx schedules pass zero memory = memory
run_slices ctx schedules pass (suc slice) memory =
    run ctx pass slice (schedules slice) (run_slices ctx schedules pass slice memory)

-- the first passes, each slice by its schedule
unfoldable pub run_passes : Context → (ℕ → ℕ → List ℕ) → ℕ → Memory → Memory
run_passes ctx schedules zero memory = memory
run_passes ctx schedules (suc pass) memory =
    run_slices ctx (schedules pass) pass 4 (run_passes ctx schedules pass memory)
