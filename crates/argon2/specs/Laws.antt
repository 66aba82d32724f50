-- Definitions of the laws of Argon2.
use Rattle.std.specs.Prelude.{◌≡◌, ℕ, ◌+◌, ◌*◌, ◌<◌, List, [], length, slice_index_or}
use Rattle.argon2.specs.Rfc9106.{Blocks, Context, FirstColumns, block_count, lane_length, rule}
use Rattle.argon2.specs.Layout.{Memory}
use Rattle.argon2.specs.Steps.{IsSchedule}

-- ---- the recurrence

-- blocks that are all made as the rule says
abbrev pub IsRecurrence : Context → FirstColumns → Blocks → Type 0
IsRecurrence ctx first blocks =
    (pass lane column : ℕ) → lane < ctx.p_cost → column < lane_length ctx →
    blocks pass lane column ≡ rule ctx first blocks pass lane column

-- ---- the order of steps

-- a memory whose columns 0 and 1 have the first blocks of the recurrence
pub record Begins (ctx : Context) (first : FirstColumns) (memory : Memory) : Type 0 where
  pub size : length memory ≡ block_count ctx
  pub columns : (lane column : ℕ) → lane < ctx.p_cost → column < 2 →
      slice_index_or memory (lane * lane_length ctx + column) [] ≡ first lane column

-- one schedule for each pass and slice
abbrev pub AreSchedules : Context → (ℕ → ℕ → List ℕ) → Type 0
AreSchedules ctx schedules = (pass slice : ℕ) → pass < ctx.t_cost → slice < 4 →
    IsSchedule ctx pass slice (schedules pass slice)

-- ---- independence

-- two contexts that are equal except for version, secret and associated data
pub record AreAlike (one other : Context) : Type 0 where
  pub algorithm : one.algorithm ≡ other.algorithm
  pub m_cost : one.m_cost ≡ other.m_cost
  pub t_cost : one.t_cost ≡ other.t_cost
  pub p_cost : one.p_cost ≡ other.p_cost
