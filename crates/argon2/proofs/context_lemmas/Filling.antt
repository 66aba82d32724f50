-- Running one schedule for each pass and slice in order fills a list with the matrix.
use Rattle.argon2.proofs.Imports.{◌≡◌, ℕ, zero, suc, ◌+◌, ◌-◌, ◌*◌, ◌/◌, ◌%◌, ◌<◌, ◌≤◌, ◌≢◌, List, [], ◌∷◌, refl, sym, ap, ◌∙◌, arith, div-eq_of_lt-le, mod-lt}
use Rattle.argon2.proofs.Imports.{length-set, get_or-set_same, fill_by_all, mul-add-lt, div_below, nat_tests, Context, FirstColumns, Reference, block_count, block_of, lane_length}
use Rattle.argon2.proofs.Imports.{made_block, segment_length, Memory, HasSizes, matrix, reference_places, IsStep, in_memory, step, reference_place, turns, IsSchedule, run}
use Rattle.argon2.proofs.Imports.{run_slices, run_passes, columns_before, HasBlocksUpTo, Begins, AreSchedules, div-add-mod'}
use Rattle.argon2.proofs.recurrence.PermittedPlaces.{InSlice}
use Rattle.argon2.proofs.recurrence.Sources.{AgreeOn, made_cong, reference_of_cong}
use Rattle.argon2.proofs.context_lemmas.Schedules.{turns-same, turns-other, MayRun, MayRun-tail, MayRun-from, head_step, turn_count-le, set_apart}
use Rattle.argon2.proofs.recurrence.History.{first_columns, made_blocks}

-- equal counts of made columns say the same
pub HasBlocksUpTo-like : (ctx : Context) (first : FirstColumns) (pass : ℕ) (done done' : ℕ → ℕ) (memory : List (List ℕ))
    → ((l : ℕ) → l < ctx.p_cost → done l ≡ done' l)
    → HasBlocksUpTo ctx first pass done memory → HasBlocksUpTo ctx first pass done' memory
HasBlocksUpTo-like ctx first pass done done' memory same h = grind arith

-- ---- a step of a slice, in which lane i has `done i` columns

module _ (ctx : Context) (sizes : HasSizes ctx) (first : FirstColumns)
    (pass lane column slice : ℕ) (done : ℕ → ℕ) (memory : Memory)
    (st : IsStep ctx pass lane column) (here : InSlice (segment_length ctx) column slice) (now : done lane ≡ column)
    (about : (l : ℕ) → l < ctx.p_cost → (slice * segment_length ctx ≤ done l) × (done l ≤ (slice + 1) * segment_length ctx))
    (h : HasBlocksUpTo ctx first pass done memory) where
  -- what a step reads are the recurrence's blocks
  step_reads : AgreeOn ctx pass lane column (in_memory ctx memory) (block_of ctx first)
  unfolding in_memory
  step_reads r l c reads =
      let a = about l reads.in_lanes in
      let apart = rw (div-eq_of_lt-le (segment_length ctx) here.above here.below) at reads.apart in
      let newest = reads.newest in
      grind (arith, h.new l c reads.in_lanes reads.in_columns, h.old r l c)

  -- a step's block is the recurrence's
  step_makes : made_block ctx (in_memory ctx memory) pass lane column ≡ block_of ctx first pass lane column
  step_makes = made_cong ctx sizes pass lane column st _ (block_of ctx first) step_reads
      ∙ sym (made_blocks ctx sizes first pass lane column st)

  -- the place of a step's reference is the recurrence's
  pub step_answers : reference_place ctx memory pass lane column ≡ reference_places ctx first pass lane column
  unfolding reference_place reference_places
  step_answers = ap (λ (x : Reference). x.lane * lane_length ctx + x.column)
      (reference_of_cong ctx sizes pass lane column st _ (block_of ctx first) step_reads)

  -- a step adds a column to its lane
  pub step_fills : (done' : ℕ → ℕ) → done' lane ≡ suc column → ((l : ℕ) → l ≢ lane → done' l ≡ done l)
      → HasBlocksUpTo ctx first pass done' (step ctx memory pass lane column)
  unfolding step
  step_fills done' then' others =
      let q = lane_length ctx in
      let b = made_block ctx (in_memory ctx memory) pass lane column in
      let within = mul-add-lt lane q column ctx.p_cost st.in_lanes st.in_columns in
      let size = h.size in
      let kept = λ (l c : ℕ). set_apart q l c lane column memory b in
      record {
        size = length-set memory (lane * q + column) b ∙ h.size;
        new = λ l c a below lt.
            let same = get_or-set_same memory (lane * q + column) b [] (omega arith) in
            grind (arith, kept l c, h.new l c, others l, step_makes);
        old = λ r l c p a below le. grind (arith, kept l c, h.old r l c, others l);
      }

-- ---- a slice, by what is left of a schedule

-- the columns that a lane has made when these turns are left in the slice
abbrev done_before : Context → ℕ → List ℕ → ℕ → ℕ
done_before ctx slice schedule l = (slice + 1) * segment_length ctx - turns l schedule

-- the end of a pass is the start of the next
pub next_pass : (ctx : Context) (first : FirstColumns) (pass : ℕ) (memory : Memory)
    → HasBlocksUpTo ctx first pass (λ _. columns_before ctx pass 4) memory
    → HasBlocksUpTo ctx first (suc pass) (λ _. columns_before ctx (suc pass) 0) memory
next_pass ctx first pass memory h = grind (arith, nat_tests)

module _ (ctx : Context) (sizes : HasSizes ctx) (first : FirstColumns) where
  -- what is left of a schedule finishes the slice
  run_fills : (pass slice : ℕ) → slice < 4 → (schedule : List ℕ) (memory : Memory) → MayRun ctx pass slice schedule
      → HasBlocksUpTo ctx first pass (done_before ctx slice schedule) memory
      → HasBlocksUpTo ctx first pass (done_before ctx slice []) (run ctx pass slice schedule memory)
  unfolding run
  run_fills pass slice four [] memory m h = h
  run_fills pass slice four (lane ∷ schedule) memory m h =
      let st = head_step ctx sizes pass slice lane schedule four m in
      let same = turns-same lane schedule in
      let room = m.few lane m.lanes.0 in
      let most = turn_count-le ctx pass slice in
      run_fills pass slice four schedule _ (MayRun-tail ctx pass slice lane schedule m)
      (step_fills ctx sizes first pass lane _ slice (done_before ctx slice (lane ∷ schedule)) memory st.0 st.1 (omega arith)
      (λ l below. let few = m.few l below in (omega arith, omega arith)) h (done_before ctx slice schedule) (omega arith)
      (λ l ne. let other = turns-other l lane schedule (λ e. ne (sym e)) in omega arith))

  -- the first slices of a pass fill it up to there, each by its schedule
  slices_fill : (schedules : ℕ → List ℕ) (pass slice : ℕ) → slice ≤ 4 → ((j : ℕ) → j < 4 → IsSchedule ctx pass j (schedules j))
      → (memory : Memory) → HasBlocksUpTo ctx first pass (λ _. columns_before ctx pass 0) memory
      → HasBlocksUpTo ctx first pass (λ _. columns_before ctx pass slice) (run_slices ctx schedules pass slice memory)
  unfolding run_slices
  slices_fill schedules pass zero four is memory h = h
  slices_fill schedules pass (suc slice) four is memory h =
      let schedule = schedules slice in
      let it = is slice (omega arith) in
      let start = HasBlocksUpTo-like ctx first pass (λ _. columns_before ctx pass slice) (done_before ctx slice schedule) _
      (λ l below. let turns = it.turns l below in omega arith) (slices_fill schedules pass slice (omega arith) is memory h) in
      HasBlocksUpTo-like ctx first pass (done_before ctx slice []) (λ _. columns_before ctx pass (suc slice)) _
      (λ l below. grind (arith, nat_tests))
      (run_fills pass slice (omega arith) schedule _ (MayRun-from ctx pass slice schedule it) start)

  -- the first passes fill the memory, each slice by its schedule
  passes_fill : (schedules : ℕ → ℕ → List ℕ) (passes : ℕ)
      → ((r slice : ℕ) → r < passes → slice < 4 → IsSchedule ctx r slice (schedules r slice)) → (memory : Memory)
      → HasBlocksUpTo ctx first 0 (λ _. columns_before ctx 0 0) memory
      → HasBlocksUpTo ctx first passes (λ _. columns_before ctx passes 0) (run_passes ctx schedules passes memory)
  unfolding run_passes
  passes_fill schedules zero is memory h = h
  passes_fill schedules (suc r) is memory h = next_pass ctx first r _
      (slices_fill (schedules r) r 4 (omega arith) (λ slice lt. is r slice (omega arith) lt) _
      (passes_fill schedules r (λ a slice x y. is a slice (omega arith) y) memory h))

  -- a memory that begins with the first two columns is filled up to there
  pub filled_at_first : (memory : Memory) → Begins ctx first memory
      → HasBlocksUpTo ctx first 0 (λ _. columns_before ctx 0 0) memory
  filled_at_first memory start =
      let two = sizes.two_columns in
      let columns = first_columns ctx sizes first in
      grind (arith, nat_tests)

  -- after the last pass the memory is the matrix
  pub filled_at_last : (passes : ℕ) (memory : Memory) → passes ≡ ctx.t_cost
      → HasBlocksUpTo ctx first passes (λ _. columns_before ctx passes 0) memory → memory ≡ matrix ctx first
  unfolding matrix
  filled_at_last zero memory t h = absurd (let some = sizes.some_pass in omega arith)
  filled_at_last (suc r) memory t h =
      let q = lane_length ctx in
      let two = sizes.two_columns in
      let p : r ≡ ctx.t_cost - 1 = omega arith in
      fill_by_all (λ place. block_of ctx first (ctx.t_cost - 1) (place / q) (place % q)) memory (block_count ctx) [] h.size
      (λ n lt.
      let lane : n / q < ctx.p_cost = div_below n q ctx.p_cost (omega arith) lt in
      let column : n % q < q = mod-lt n (omega arith) in
      grind (arith, div-add-mod' n q, h.old r (n / q) (n % q), nat_tests))

  -- any schedules lead from the first two columns to the matrix
  pub schedules_fill : (schedules : ℕ → ℕ → List ℕ) → AreSchedules ctx schedules → (memory : Memory) → Begins ctx first memory
      → run_passes ctx schedules ctx.t_cost memory ≡ matrix ctx first
  schedules_fill schedules is memory start =
      filled_at_last ctx.t_cost _ refl (passes_fill schedules ctx.t_cost is memory (filled_at_first memory start))
