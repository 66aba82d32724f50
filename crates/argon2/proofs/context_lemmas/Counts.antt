-- The mixings of all segments are t * B - 2p, and two for each address block.
use Rattle.argon2.proofs.Imports.{◌≡◌, ℕ, zero, suc, ◌+◌, ◌-◌, ◌*◌, ◌/◌, ◌^◌, ◌<◌, ◌≤◌, Bool, true, false, ap, arith, ◌==◌, if◌then◌else◌, mul-le-mul, mul-le-mul_left}
use Rattle.argon2.proofs.Imports.{mul-le-mul_right, nat_tests, Context, address_counter, block_count, is_independent, lane_length, segment_length, HasSizes, address_mixings}
use Rattle.argon2.proofs.Imports.{independent_segments, mixing_calls, segment_calls, slices_calls}

-- the mixings of the first passes
unfoldable pub passes_calls : Context → ℕ → ℕ
passes_calls ctx zero = 0
passes_calls ctx (suc pass) = passes_calls ctx pass + slices_calls ctx pass 4

module _ (ctx : Context) (sizes : HasSizes ctx) where
  -- the mixings of the address blocks of a segment that has them
  address_calls : ℕ
  address_calls = 2 * address_counter (segment_length ctx - 1)

  -- how many of a lane's segments have address blocks, in pass 0 and in a later pass
  independent_first : ℕ
  independent_first = if ctx.algorithm == 1 then 4 else if ctx.algorithm == 2 then 2 else 0

  independent_later : ℕ
  independent_later = if ctx.algorithm == 1 then 4 else 0

  -- the mixings of a lane in a pass
  pass_calls : ℕ → ℕ
  pass_calls pass = segment_calls ctx pass 0 + segment_calls ctx pass 1 + segment_calls ctx pass 2 + segment_calls ctx pass 3

  -- the mixings of a lane in pass 0
  pass_calls-first : pass_calls 0 + 2 ≡ 4 * segment_length ctx + address_calls * independent_first
  unfolding pass_calls segment_calls address_mixings is_independent address_calls independent_first
  pass_calls-first = let two = sizes.two_columns in grind (arith, nat_tests)

  -- the mixings of a lane in a later pass
  pass_calls-later : (pass : ℕ) → pass_calls (suc pass) ≡ 4 * segment_length ctx + address_calls * independent_later
  unfolding pass_calls segment_calls address_mixings is_independent address_calls independent_later
  pass_calls-later pass = grind (arith, nat_tests)

  -- the mixings of a pass's four slices are the mixings of its lanes
  slices_calls-4 : (pass : ℕ) → slices_calls ctx pass 4 ≡ ctx.p_cost * pass_calls pass
  unfolding slices_calls pass_calls
  slices_calls-4 pass = grind arith

  -- the mixings of all passes
  passes_calls-sum : (r : ℕ) → passes_calls ctx (suc r) + 2 * ctx.p_cost
      ≡ suc r * block_count ctx
      + address_calls * (ctx.p_cost * independent_first + r * (ctx.p_cost * independent_later))
  unfolding passes_calls
  passes_calls-sum zero = let e = ap (λ x. ctx.p_cost * x) pass_calls-first in let s = slices_calls-4 0 in omega arith
  passes_calls-sum (suc r) =
      omega (arith, passes_calls-sum r, ap (λ x. ctx.p_cost * x) (pass_calls-later r), slices_calls-4 (suc r))

  -- how many segments have address blocks
  independent_segments-sum : (r : ℕ) → ctx.t_cost ≡ suc r
      → ctx.p_cost * independent_first + r * (ctx.p_cost * independent_later) ≡ independent_segments ctx
  unfolding independent_segments independent_first independent_later
  independent_segments-sum r t = rw t (by_cases (ctx.algorithm == 1) (ctx.algorithm == 2) ctx.p_cost)
    where
      by_cases : (one two : Bool) (p : ℕ)
          → p * (if one then 4 else if two then 2 else 0) + r * (p * (if one then 4 else 0))
          ≡ (if one then 4 * suc r * p else if two then 2 * p else 0)
      by_cases true two p = omega arith
      by_cases false true p = omega arith
      by_cases false false p = omega arith

  -- the mixings of all passes are the number that the formula gives
  pub passes_calls-all : passes_calls ctx ctx.t_cost ≡ mixing_calls ctx
  unfolding mixing_calls address_calls
  passes_calls-all =
      let two = sizes.two_columns in
      let some = sizes.some_pass in
      let r = ctx.t_cost - 1 in
      let t : ctx.t_cost ≡ suc r = omega arith in
      let sum = passes_calls-sum r in
      let segments = ap (λ n. address_calls * n) (independent_segments-sum r t) in
      let eight : 8 ≤ lane_length ctx = omega arith in
      let big : 2 * ctx.p_cost ≤ suc r * block_count ctx = omega (arith, mul-le-mul_left ctx.p_cost eight) in
      omega (arith, ap (λ n. n * block_count ctx) t, ap (passes_calls ctx) t)

-- what grows at each number is at most what it is later
grows : (f : ℕ → ℕ) → ((n : ℕ) → f n ≤ f (suc n)) → (k n : ℕ) → k ≤ n → f k ≤ f n
grows f more k zero le = let e : k ≡ 0 = omega arith in omega (arith, ap f e)
grows f more k (suc n) le = grind (arith, more n, grows f more k n)

-- the count of all mixings is small
mixing_calls-few : (ctx : Context) → HasSizes ctx → mixing_calls ctx < 2 ^ 126
unfolding mixing_calls independent_segments
mixing_calls-few ctx sizes =
    let s = segment_length ctx in
    let p = ctx.p_cost in
    let t = ctx.t_cost in
    let two = sizes.two_columns in
    let n : independent_segments ctx ≤ 4 * t * p =
    (let positive : 1 * p ≤ t * p = mul-le-mul_right p sizes.some_pass in grind (arith, nat_tests)) in
    let a : (s - 1) / 128 + 1 ≤ s = omega arith in
    let h : ((s - 1) / 128 + 1) * independent_segments ctx ≤ s * (4 * t * p) = mul-le-mul a n in
    let b : t * (p * (4 * s)) ≤ 2 ^ 32 * (p * (4 * s)) = mul-le-mul_right (p * (4 * s)) (let w = sizes.t_cost in omega arith) in
    omega (arith, sizes.in_memory, sizes.m_cost)

-- the mixings before a segment are few
pub calls_before-few : (ctx : Context) → HasSizes ctx → (pass slice lane : ℕ) → pass < ctx.t_cost → slice < 4 → lane < ctx.p_cost
    → passes_calls ctx pass + slices_calls ctx pass slice + lane * segment_calls ctx pass slice < 2 ^ 126
unfolding passes_calls slices_calls
calls_before-few ctx sizes pass slice lane t four l =
    let lanes : lane * segment_calls ctx pass slice ≤ ctx.p_cost * segment_calls ctx pass slice =
    mul-le-mul_right (segment_calls ctx pass slice) (omega arith) in
    let slices = grows (slices_calls ctx pass) (λ n. omega arith) (suc slice) 4 (omega arith) in
    let passes = grows (passes_calls ctx) (λ n. omega arith) (suc pass) ctx.t_cost (omega arith) in
    omega (arith, passes_calls-all ctx sizes, mixing_calls-few ctx sizes)
