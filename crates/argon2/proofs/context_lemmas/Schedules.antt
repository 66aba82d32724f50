-- A lane sees only what its own turns in a slice make, so all schedules of a slice give the same blocks.
use Rattle.argon2.proofs.Imports.{◌≡◌, ℕ, zero, suc, ◌+◌, ◌-◌, ◌*◌, ◌/◌, ◌%◌, ◌<◌, ◌≤◌, ◌≢◌, ◌⊎◌, inl, inr, List, [], ◌∷◌, ◌++◌, length, refl, sym, ◌∙◌, subst, arith}
use Rattle.argon2.proofs.Imports.{slice_index_or, slice_set, ◌==◌, if◌then◌else◌, mul-le-mul_right, div-eq_of_lt-le, mod-lt, AllByRecursion, ext_get_or, get_or-set_other, get_or-set_same}
use Rattle.argon2.proofs.Imports.{length-set, sum_by-cons, sum_by-append, div_below, same_from_place, cases_eq, nat_tests, Context, block_count, lane_length, segment_length}
use Rattle.argon2.proofs.Imports.{Memory, HasSizes, IsStep, in_memory, step, turns, turn_count, IsSchedule, run, div-add-mod'}
use Rattle.argon2.proofs.context_lemmas.InMemory.{place_below}
use Rattle.argon2.proofs.recurrence.PermittedPlaces.{InSlice}
use Rattle.argon2.proofs.recurrence.Sources.{made_cong}

-- writing a block keeps the blocks of other lanes or columns
pub set_apart : (q l c m d : ℕ) (memory : Memory) (b : List ℕ) → c < q → d < q → (l ≡ m → c ≡ d → ⊥)
    → slice_index_or (slice_set memory (m * q + d) b) (l * q + c) [] ≡ slice_index_or memory (l * q + c) []
set_apart q l c m d memory b hc hd ne =
    get_or-set_other memory (m * q + d) (l * q + c) b [] (λ e. let s = same_from_place l c m d q hc hd e in ne s.0 s.1)

-- ---- turns

-- turns are counted one by one
turns-cons : (lane x : ℕ) (xs : List ℕ)
    → turns lane (x ∷ xs) ≡ (if x == lane then 1 else 0) + turns lane xs
turns-cons lane x xs = sum_by-cons (λ y. (if y == lane then 1 else 0)) x xs

-- a lane's own turn counts
pub turns-same : (lane : ℕ) (xs : List ℕ) → turns lane (lane ∷ xs) ≡ suc (turns lane xs)
turns-same lane xs = let e = turns-cons lane lane xs in grind (arith, nat_tests)

-- another lane's turn does not count
pub turns-other : (lane x : ℕ) (xs : List ℕ) → x ≢ lane → turns lane (x ∷ xs) ≡ turns lane xs
turns-other lane x xs ne = let e = turns-cons lane x xs in grind (arith, nat_tests)

-- the turns of two lists add up
pub turns-append : (lane : ℕ) (xs ys : List ℕ)
    → turns lane (xs ++ ys) ≡ turns lane xs + turns lane ys
turns-append lane xs ys = sum_by-append (λ y. (if y == lane then 1 else 0)) xs ys

-- ---- the step of a turn

-- no lane has more turns than its segment has columns
pub turn_count-le : (ctx : Context) (pass slice : ℕ) → turn_count ctx pass slice ≤ segment_length ctx
turn_count-le ctx pass slice = grind (arith, nat_tests)

-- the column of a lane's turn with n more after it
abbrev pub turn_column : Context → ℕ → ℕ → ℕ
turn_column ctx slice n = (slice + 1) * segment_length ctx - suc n

-- ---- schedules, whole or what is left of them

-- lanes in any order, none with too many turns
pub record MayRun (ctx : Context) (pass slice : ℕ) (schedule : List ℕ) : Type 0 where
  pub lanes : AllByRecursion (λ lane. lane < ctx.p_cost) schedule
  pub few : (lane : ℕ) → lane < ctx.p_cost → turns lane schedule ≤ turn_count ctx pass slice

-- what is left after the first turn may run too
pub MayRun-tail : (ctx : Context) (pass slice lane : ℕ) (schedule : List ℕ)
    → MayRun ctx pass slice (lane ∷ schedule) → MayRun ctx pass slice schedule
MayRun-tail ctx pass slice lane schedule m =
    record { lanes = m.lanes.1; few = λ l h. omega (arith, m.few l h, turns-cons l lane schedule) }

-- the first turn is a step
pub head_step : (ctx : Context) → HasSizes ctx → (pass slice lane : ℕ) (schedule : List ℕ) → slice < 4
    → MayRun ctx pass slice (lane ∷ schedule)
    → IsStep ctx pass lane (turn_column ctx slice (turns lane schedule))
    × InSlice (segment_length ctx) (turn_column ctx slice (turns lane schedule)) slice
head_step ctx sizes pass slice lane schedule four m =
    let s = segment_length ctx in
    let two : 2 ≤ s = sizes.two_columns in
    let le = turn_count-le ctx pass slice in
    let few = m.few lane m.lanes.0 in
    let here = m.lanes.0 in
    let same = turns-same lane schedule in
    let whole : (slice + 1) * s ≤ 4 * s = mul-le-mul_right s (omega arith) in
    let more : 0 < slice → 1 * s ≤ slice * s = λ some. mul-le-mul_right s some in
    (grind (arith, nat_tests), grind arith)

-- a whole schedule may run
pub MayRun-from : (ctx : Context) (pass slice : ℕ) (schedule : List ℕ)
    → IsSchedule ctx pass slice schedule → MayRun ctx pass slice schedule
MayRun-from ctx pass slice schedule is = record { lanes = is.lanes; few = λ lane h. let e = is.turns lane h in omega arith }

-- ---- what a lane sees

-- the memories agree, but for the blocks of other lanes in the slice
record SeenAlike (ctx : Context) (slice lane : ℕ) (memory memory' : Memory) : Type 0 where
  size : length memory ≡ block_count ctx
  size' : length memory' ≡ block_count ctx
  same : (l c : ℕ) → l < ctx.p_cost → c < lane_length ctx
      → (l ≡ lane) ⊎ ((c < slice * segment_length ctx) ⊎ ((slice + 1) * segment_length ctx ≤ c))
      → slice_index_or memory (l * lane_length ctx + c) [] ≡ slice_index_or memory' (l * lane_length ctx + c) []

-- they do so after a step of another lane
step_of_other : (ctx : Context) (pass slice lane x d : ℕ) (memory memory' : Memory) → x ≢ lane → d < lane_length ctx
    → InSlice (segment_length ctx) d slice → SeenAlike ctx slice lane memory memory'
    → SeenAlike ctx slice lane (step ctx memory pass x d) memory'
unfolding step
step_of_other ctx pass slice lane x d memory memory' ne within here h =
    grind (arith, length-set memory (x * lane_length ctx + d), set_apart)

-- and after the same step of the lane in both
step_of_own : (ctx : Context) → HasSizes ctx → (pass slice lane d : ℕ) (memory memory' : Memory) → IsStep ctx pass lane d
    → InSlice (segment_length ctx) d slice → SeenAlike ctx slice lane memory memory'
    → SeenAlike ctx slice lane (step ctx memory pass lane d) (step ctx memory' pass lane d)
unfolding step in_memory
step_of_own ctx sizes pass slice lane d memory memory' st here h =
    let q = lane_length ctx in
    let at = lane * q + d in
    let within = place_below ctx lane d st.in_lanes st.in_columns in
    let e = div-eq_of_lt-le (segment_length ctx) here.above here.below in
    let made = made_cong ctx sizes pass lane d st (in_memory ctx memory) (in_memory ctx memory')
    (λ r l c reads. h.same l c reads.in_lanes reads.in_columns (rw e at reads.apart)) in
    grind (arith, length-set memory at, length-set memory' at, get_or-set_same {A = List ℕ}, get_or-set_other {A = List ℕ})

-- only the last n turns of a lane
alone : Context → ℕ → ℕ → ℕ → ℕ → Memory → Memory
alone ctx pass slice lane zero memory = memory
alone ctx pass slice lane (suc n) memory = alone ctx pass slice lane n (step ctx memory pass lane (turn_column ctx slice n))

-- a lane sees only what its own turns make
run_alone : (ctx : Context) → HasSizes ctx → (pass slice lane : ℕ) → slice < 4 → (schedule : List ℕ)
    → MayRun ctx pass slice schedule
    → (memory memory' : Memory) → SeenAlike ctx slice lane memory memory'
    → SeenAlike ctx slice lane (run ctx pass slice schedule memory) (alone ctx pass slice lane (turns lane schedule) memory')
unfolding run alone
run_alone ctx sizes pass slice lane four [] m memory memory' h = h
run_alone ctx sizes pass slice lane four (x ∷ xs) m memory memory' h =
    let Seen = λ (l n : ℕ). SeenAlike ctx slice l (run ctx pass slice (x ∷ xs) memory) (alone ctx pass slice l n memory') in
    let st = head_step ctx sizes pass slice x xs four m in
    let rest = λ (l : ℕ). run_alone ctx sizes pass slice l four xs (MayRun-tail ctx pass slice x xs m) in
    elim (cases_eq x lane) [
      | inl e ↦ subst (λ l. SeenAlike ctx slice l memory memory' → Seen l (turns l (x ∷ xs))) e (λ own.
          subst (Seen x) (sym (turns-same x xs))
          (rest x _ _ (step_of_own ctx sizes pass slice x _ memory memory' st.0 st.1 own))) h
      | inr ne ↦ subst (Seen lane) (sym (turns-other lane x xs ne))
          (rest lane _ _ (step_of_other ctx pass slice lane x _ memory memory' ne st.0.in_columns st.1 h))
    ]

-- any two schedules of a slice give the same blocks, whatever they hold
pub schedules_agree : (ctx : Context) → HasSizes ctx → (pass slice : ℕ) → slice < 4 → (xs ys : List ℕ)
    → IsSchedule ctx pass slice xs → IsSchedule ctx pass slice ys
    → (memory : Memory) → length memory ≡ block_count ctx
    → run ctx pass slice xs memory ≡ run ctx pass slice ys memory
schedules_agree ctx sizes pass slice four xs ys ix iy memory size =
    let q = lane_length ctx in
    let seen = λ (lane : ℕ) (zs : List ℕ) (is : IsSchedule ctx pass slice zs).
    run_alone ctx sizes pass slice lane four zs (MayRun-from ctx pass slice zs is) memory memory
    (record { size = size; size' = size; same = λ l c a below far. refl }) in
    let one = (seen 0 xs ix).size in
    let two = sizes.two_columns in
    ext_get_or [] _ _ (one ∙ sym (seen 0 ys iy).size) (λ n lt.
    let lane : n / q < ctx.p_cost = div_below n q ctx.p_cost (omega arith) (omega arith) in
    let column : n % q < q = mod-lt n (omega arith) in
    let one = (seen (n / q) xs ix).same (n / q) (n % q) lane column (inl refl) in
    let other = (seen (n / q) ys iy).same (n / q) (n % q) lane column (inl refl) in
    grind (arith, div-add-mod' n q, ix.turns (n / q) lane, iy.turns (n / q) lane))
