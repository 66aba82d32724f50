-- How far the memory and the positions are filled while the lanes of a slice come one after the other.
use Rattle.argon2.proofs.Imports.{◌≡◌, ℕ, suc, ◌+◌, ◌*◌, ◌<◌, ◌≤◌, ◌≢◌, List, add-one, arith, slice_set, nat_tests, Context, FirstColumns, segment_length, Memory, HasSizes, Begins}
use Rattle.argon2.proofs.Imports.{columns_before, in_order, position_index, IsFilledFrom, IsFilledUpTo, IsStep, reference_place, step, ◌∙◌, length-set, get_or-set_same, get_or-set_other}
use Rattle.argon2.proofs.Imports.{mul-add-lt, same_from_place, block_count, lane_length, reference_places, HasPositionsUpTo}
use Rattle.argon2.proofs.recurrence.PermittedPlaces.{InSlice}
use Rattle.argon2.proofs.context_lemmas.Filling.{filled_at_first, filled_at_last, next_pass, step_answers, step_fills}
use Rattle.argon2.proofs.context_lemmas.Schedules.{turn_count-le}
use Rattle.argon2.proofs.context_lemmas.InMemory.{place_below}

-- blocks of one index are one block
position_index-same : (ctx : Context) (pass lane column r l c : ℕ) → lane < ctx.p_cost → column < lane_length ctx
    → l < ctx.p_cost → c < lane_length ctx → position_index ctx r l c ≡ position_index ctx pass lane column
    → (r ≡ pass) × (l ≡ lane) × (c ≡ column)
position_index-same ctx pass lane column r l c a b x y e =
    let outer = same_from_place r (l * lane_length ctx + c) pass (lane * lane_length ctx + column) (block_count ctx)
    (place_below ctx l c x y) (place_below ctx lane column a b) e in
    let inner = same_from_place l c lane column (lane_length ctx) y b outer.1 in
    (outer.0, inner.0, inner.1)

-- a step records its reference's place
step_positions : (ctx : Context) → HasSizes ctx → (first : FirstColumns) (pass lane column : ℕ) (done done' : ℕ → ℕ)
    (old new : List ℕ) (place : ℕ) → IsStep ctx pass lane column → pass < ctx.t_cost
    → place ≡ reference_places ctx first pass lane column → done lane ≡ column → done' lane ≡ suc column
    → ((l : ℕ) → l ≢ lane → done' l ≡ done l) → HasPositionsUpTo ctx first pass done old new
    → HasPositionsUpTo ctx first pass done' old (slice_set new (position_index ctx pass lane column) place)
step_positions ctx sizes first pass lane column done done' old new place st t is now then' others has =
    let size = has.size in
    let place' = place_below ctx lane column st.in_lanes st.in_columns in
    let room = mul-add-lt pass (block_count ctx) (lane * lane_length ctx + column) ctx.t_cost t place' in
    let two = sizes.two_columns in
    let i = position_index ctx pass lane column in
    record {
      size = length-set new i place ∙ has.size;
      of_steps = λ r l c s st' h.
          let one = position_index-same ctx pass lane column r l c st.in_lanes st.in_columns st'.in_lanes st'.in_columns in
          let set = get_or-set_same new i place 0 (omega arith) in
          grind (arith, get_or-set_other new i (position_index ctx r l c), others l, has.of_steps r l c s st');
      of_first_columns = λ l c a b.
          let one = position_index-same ctx pass lane column 0 l c st.in_lanes st.in_columns a (omega arith) in
          grind (arith, get_or-set_other new i (position_index ctx 0 l c), has.of_first_columns l c a b);
    }

-- counts of made columns that agree say the same
pub IsFilledUpTo-like : (ctx : Context) (first : FirstColumns) (pass : ℕ) (done done' : ℕ → ℕ) (memory : Memory)
    (old new : List ℕ) → ((l : ℕ) → l < ctx.p_cost → done l ≡ done' l)
    → IsFilledUpTo ctx first pass done memory old new → IsFilledUpTo ctx first pass done' memory old new
IsFilledUpTo-like ctx first pass done done' memory old new same is =
    grind arith

-- a step fills a column more of its lane
pub filled_step : (ctx : Context) → HasSizes ctx → (first : FirstColumns) (pass slice lane column : ℕ) (memory : Memory)
    (old new : List ℕ) → pass < ctx.t_cost → IsStep ctx pass lane column → InSlice (segment_length ctx) column slice
    → IsFilledUpTo ctx first pass (in_order ctx pass slice lane column) memory old new
    → IsFilledUpTo ctx first pass (in_order ctx pass slice lane (column + 1)) (step ctx memory pass lane column) old
    (slice_set new (position_index ctx pass lane column) (reference_place ctx memory pass lane column))
filled_step ctx sizes first pass slice lane column memory old new t st here is =
    let s = segment_length ctx in
    let few = turn_count-le ctx pass slice in
    let done = in_order ctx pass slice lane column in
    let done' = in_order ctx pass slice lane (column + 1) in
    let now : done lane ≡ column = grind (arith, nat_tests) in
    let then' : done' lane ≡ suc column = grind (arith, nat_tests) in
    let others : (l : ℕ) → l ≢ lane → done' l ≡ done l = λ l ne. grind (arith, nat_tests) in
    let within : (l : ℕ) → l < ctx.p_cost → (slice * s ≤ done l) × (done l ≤ (slice + 1) * s) =
    λ l _. (grind (arith, nat_tests), grind (arith, nat_tests)) in
    let place = step_answers ctx sizes first pass lane column slice done memory st here now within is.blocks in
    record {
      blocks = step_fills ctx sizes first pass lane column slice done memory st here now within is.blocks done' then' others;
      positions = λ size. step_positions ctx sizes first pass lane column done done' old new _ st t place now then' others
          (is.positions size);
    }

-- ---- from the first columns to the matrix

-- the first two columns are where pass 0 begins
pub filled_first : (ctx : Context) → HasSizes ctx → (first : FirstColumns) (memory : Memory) (positions : List ℕ)
    → Begins ctx first memory → IsFilledUpTo ctx first 0 (λ _. columns_before ctx 0 0) memory positions positions
filled_first ctx sizes first memory positions begins =
    let two = sizes.two_columns in
    let blocks = filled_at_first ctx sizes first memory begins in
    grind arith

-- the end of a pass is the start of the next
pub filled_next : (ctx : Context) (first : FirstColumns) (pass : ℕ) (memory : Memory) (old new : List ℕ)
    → IsFilledUpTo ctx first pass (λ _. columns_before ctx pass 4) memory old new
    → IsFilledUpTo ctx first (pass + 1) (λ _. columns_before ctx (pass + 1) 0) memory old new
filled_next ctx first pass memory old new is =
    let blocks = next_pass ctx first pass memory is.blocks in rw (add-one pass) (grind (arith, nat_tests))

-- after all passes stand the matrix and all references
pub filled_last : (ctx : Context) → HasSizes ctx → (first : FirstColumns) (passes : ℕ) (memory : Memory) (old new : List ℕ)
    → passes ≡ ctx.t_cost → IsFilledUpTo ctx first passes (λ _. columns_before ctx passes 0) memory old new
    → IsFilledFrom ctx first memory old new
filled_last ctx sizes first passes memory old new all is =
    let some = sizes.some_pass in
    let matrix = filled_at_last ctx sizes first passes memory all is.blocks in
    grind arith
