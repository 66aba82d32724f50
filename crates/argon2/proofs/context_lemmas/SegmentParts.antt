-- A step on the parts of a memory is that step on the memory.
use Rattle.argon2.proofs.Imports.{◌≡◌, ℕ, ◌+◌, ◌*◌, ◌<◌, ◌≢◌, List, length, arith, slice_set, ◌==◌, if◌then◌else◌, mul-add-lt}
use Rattle.argon2.proofs.Imports.{nat_tests, get_or-set_other, get_or-set_same, Context, FirstColumns, block_count, lane_length, made_block, segment_length, Memory, HasSizes, AreParts}
use Rattle.argon2.proofs.Imports.{column_of, IsStepAt, IsStep, in_memory, step, HasBlocksUpTo, columns_before, Step}
use Rattle.argon2.proofs.recurrence.PermittedPlaces.{InSlice}
use Rattle.argon2.proofs.recurrence.Sources.{Reads-place, reference_reads}
use Rattle.argon2.proofs.context_lemmas.Filling.{step_fills}
use Rattle.argon2.proofs.context_lemmas.InMemory.{place_below}
use Rattle.argon2.proofs.context_lemmas.Schedules.{set_apart, turn_count-le}
use Rattle.argon2.proofs.context_lemmas.SegmentColumns.{in_lane}

-- indexes of other slices are other columns
column_apart : (s k i slice index : ℕ) → k < slice → i < s → k * s + i ≢ slice * s + index
column_apart s k i slice index below h e = let b = mul-add-lt k s i slice below h in omega arith

-- a step writes one block of each
pub step_parts : (ctx : Context) (at : Step) (memory before own after : Memory) (b : List ℕ)
    → IsStepAt ctx at → length own ≡ segment_length ctx → length memory ≡ block_count ctx
    → AreParts ctx at.slice at.lane memory before own after
    → b ≡ made_block ctx (in_memory ctx memory) at.pass at.lane (column_of ctx at)
    → AreParts ctx at.slice at.lane (step ctx memory at.pass at.lane (column_of ctx at)) before (slice_set own at.index b) after
unfolding step
step_parts ctx at memory before own after b st size all parts made =
    let s = segment_length ctx in
    let q = lane_length ctx in
    let column = column_of ctx at in
    let high = st.step.in_columns in
    let within = place_below ctx at.lane column st.step.in_lanes high in
    let kept = λ (o c : ℕ). set_apart q o c at.lane column memory b in
    rw (← made) (record {
      in_before = λ k o i below a lt.
          let four = st.in_slices in
          grind (arith, parts.in_before k o i, kept o (k * s + i), in_lane s k i, column_apart s k i at.slice at.index);
      in_own = λ i lt.
          let fits = in_lane s at.slice i st.in_slices lt in
          grind (
            arith,
            get_or-set_same {A = List ℕ},
            get_or-set_other {A = List ℕ},
            parts.in_own i,
            kept at.lane (at.slice * s + i),
          );
      in_after = λ k o i above below a lt.
          let apart = column_apart s at.slice at.index k i above st.in_segment in
          grind (arith, parts.in_after k o i, kept o (k * s + i), in_lane s k i);
    })

-- a step may read the block that it refers to
pub ruleset readable = (Reads-place, reference_reads)

-- ---- a lane that goes ahead of the others in its slice

-- how many columns of lane `other` are made when `lane` has `column` columns, and the other lanes have not begun the slice
abbrev pub ahead : Context → ℕ → ℕ → ℕ → ℕ → ℕ → ℕ
ahead ctx pass slice lane column other = if other == lane then column else columns_before ctx pass slice

-- a step fills a column more of it
pub ahead_step : (ctx : Context) → HasSizes ctx → (first : FirstColumns) (pass slice lane column : ℕ) (memory : Memory)
    → IsStep ctx pass lane column → InSlice (segment_length ctx) column slice
    → HasBlocksUpTo ctx first pass (ahead ctx pass slice lane column) memory
    → HasBlocksUpTo ctx first pass (ahead ctx pass slice lane (column + 1)) (step ctx memory pass lane column)
ahead_step ctx sizes first pass slice lane column memory st here is =
    let few = turn_count-le ctx pass slice in
    step_fills ctx sizes first pass lane column slice (ahead ctx pass slice lane column) memory st here (grind (arith, nat_tests))
    (λ l _. (grind (arith, nat_tests), grind (arith, nat_tests))) is (ahead ctx pass slice lane (column + 1))
    (grind (arith, nat_tests)) (λ l ne. grind (arith, nat_tests))
