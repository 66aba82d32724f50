-- Rounds are a schedule, and what they come to.
use Rattle.std.proofs.Common.{◌≡◌, ℕ, zero, suc, ◌+◌, ◌-◌, ◌*◌, ◌<◌, ◌≤◌, inl, inr, List, ◌++◌, refl, ap, ◌∙◌, subst, mul-le-mul_right, arith}
use Rattle.std.proofs.lemmas.Bool.{cases_eq}
use Rattle.std.specs.List.{AllByRecursion, range_with_len}
use Rattle.argon2.proofs.context_lemmas.Schedules.{turns-same, turns-other, turns-append}
use Rattle.argon2.specs.Rfc9106.{Context, segment_length}
use Rattle.argon2.specs.Layout.{Memory}
use Rattle.argon2.specs.Steps.{IsSchedule, run, step, turns, turn_count}
use Rattle.argon2_example_uses.specs.Scheduler.{lanes_by_round, lanes_in_rounds}

-- the lanes from one on have no turn of an earlier lane
turns_below : (lane a n : ℕ) → lane < a → turns lane (range_with_len a n) ≡ 0
turns_below lane a zero h = refl
turns_below lane a (suc n) h =
    turns-other lane a (range_with_len (a + 1) n) (λ e. omega arith) ∙ turns_below lane (a + 1) n (omega arith)

-- each lane of the range has one turn
turns_within : (lane a n : ℕ) → a ≤ lane → lane < a + n → turns lane (range_with_len a n) ≡ 1
turns_within lane a zero h below = absurd (omega arith)
turns_within lane a (suc n) h below = elim (cases_eq a lane) [
  | inl e ↦ subst (λ l. turns l (range_with_len a (suc n)) ≡ 1) e
      (turns-same a (range_with_len (a + 1) n) ∙ ap suc (turns_below a (a + 1) n (omega arith)))
  | inr ne ↦ turns-other lane a (range_with_len (a + 1) n) ne
      ∙ turns_within lane (a + 1) n (omega arith) (omega arith)
]

turns_rounds : (lane p n : ℕ) → lane < p → turns lane (lanes_by_round p n) ≡ n
unfolding lanes_by_round
turns_rounds lane p zero h = refl
turns_rounds lane p (suc n) h = omega (
  arith,
  turns-append lane (range_with_len 0 p) (lanes_by_round p n),
  turns_within lane 0 p (omega arith) (omega arith),
  turns_rounds lane p n h,
)

lanes_range : (p a n : ℕ) → a + n ≤ p → (ys : List ℕ) → AllByRecursion (λ l. l < p) ys →
    AllByRecursion (λ l. l < p) (range_with_len a n ++ ys)
lanes_range p a zero h ys all = all
lanes_range p a (suc n) h ys all = (omega arith, lanes_range p (a + 1) n (omega arith) ys all)

lanes_rounds : (p n : ℕ) → AllByRecursion (λ l. l < p) (lanes_by_round p n)
unfolding lanes_by_round
lanes_rounds p zero = tt
lanes_rounds p (suc n) = lanes_range p 0 p (omega arith) (lanes_by_round p n) (lanes_rounds p n)

pub rounds_schedule : (ctx : Context) (pass slice : ℕ) →
    IsSchedule ctx pass slice (lanes_in_rounds ctx pass slice)
rounds_schedule ctx pass slice = record {
  lanes = lanes_rounds ctx.p_cost (turn_count ctx pass slice);
  turns = λ lane h. turns_rounds lane ctx.p_cost (turn_count ctx pass slice) h;
}

-- ---- what they come to

-- the lanes from `lane` on, and n rounds more
unfoldable pub left : Context → ℕ → ℕ → List ℕ
left ctx lane n = range_with_len lane (ctx.p_cost - lane) ++ lanes_by_round ctx.p_cost n

-- a lane's turn is a step
pub run_turn : (ctx : Context) (pass slice lane index : ℕ) (memory : Memory) →
    lane < ctx.p_cost → index < segment_length ctx →
    run ctx pass slice (left ctx lane (segment_length ctx - (index + 1))) memory
    ≡ run ctx pass slice (left ctx (lane + 1) (segment_length ctx - (index + 1)))
    (step ctx memory pass lane (slice * segment_length ctx + index))
unfolding run left
run_turn ctx pass slice lane index memory h below =
    let s = segment_length ctx in
    let n = s - (index + 1) in
    let p = ctx.p_cost in
    let e : p - lane ≡ suc (p - (lane + 1)) = omega arith in
    let rest = range_with_len (lane + 1) (p - (lane + 1)) ++ lanes_by_round p n in
    let t : turns lane rest ≡ n = omega (
      arith,
      turns-append lane (range_with_len (lane + 1) (p - (lane + 1))) (lanes_by_round p n),
      turns_below lane (lane + 1) (p - (lane + 1)) (omega arith),
      turns_rounds lane p n h,
    ) in
    let c : (slice + 1) * s - suc (turns lane rest) ≡ slice * s + index = omega arith in
    ap (λ k. run ctx pass slice (range_with_len lane k ++ lanes_by_round p n) memory) e
    ∙ ap (λ x. run ctx pass slice rest (step ctx memory pass lane x)) c

-- if a round begins, every lane is left in it
pub run_begin : (ctx : Context) (pass slice index : ℕ) (memory : Memory) → index < segment_length ctx →
    run ctx pass slice (lanes_by_round ctx.p_cost (segment_length ctx - index)) memory
    ≡ run ctx pass slice (left ctx 0 (segment_length ctx - (index + 1))) memory
unfolding lanes_by_round left
run_begin ctx pass slice index memory below =
    let n = segment_length ctx - (index + 1) in
    let e : segment_length ctx - index ≡ suc n = omega arith in
    let all : ctx.p_cost ≡ ctx.p_cost - 0 = omega arith in
    ap (λ k. run ctx pass slice (lanes_by_round ctx.p_cost k) memory) e
    ∙ ap (λ k. run ctx pass slice (range_with_len 0 k ++ lanes_by_round ctx.p_cost n) memory) all

-- if a round ends, no lane is left in it
pub run_end : (ctx : Context) (pass slice n : ℕ) (memory : Memory) →
    run ctx pass slice (left ctx ctx.p_cost n) memory ≡ run ctx pass slice (lanes_by_round ctx.p_cost n) memory
unfolding left
run_end ctx pass slice n memory =
    let e : ctx.p_cost - ctx.p_cost ≡ 0 = omega arith in
    ap (λ k. run ctx pass slice (range_with_len ctx.p_cost k ++ lanes_by_round ctx.p_cost n) memory) e

-- if no round is left the memory stays
pub run_no_round : (ctx : Context) (pass slice index : ℕ) (memory : Memory) → segment_length ctx ≤ index →
    run ctx pass slice (lanes_by_round ctx.p_cost (segment_length ctx - index)) memory ≡ memory
unfolding lanes_by_round run
run_no_round ctx pass slice index memory all =
    let e : segment_length ctx - index ≡ 0 = omega arith in
    ap (λ n. run ctx pass slice (lanes_by_round ctx.p_cost n) memory) e

-- ---- columns

pub column_below : (slice s index : ℕ) → slice < 4 → index < s → slice * s + index < 4 * s
column_below slice s index few below =
    let slices : slice ≤ 3 = omega arith in
    omega (arith, mul-le-mul_right s slices)

-- a slice but the first begins after columns 0 and 1
pub column_late : (slice s index first : ℕ) → 2 ≤ s → first ≤ index → (slice ≡ 0 → first ≡ 2) →
    2 ≤ slice * s + index
column_late zero s index first two from late =
    let start = late refl in
    omega arith
column_late (suc slice) s index first two from late = grind arith
