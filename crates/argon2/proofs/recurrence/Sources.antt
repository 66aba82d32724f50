-- Which blocks a block is made of. All else rests on two laws, `reference_reads` and `made_cong`.
use Rattle.argon2.proofs.Imports.{◌≡◌, ℕ, zero, suc, ◌+◌, ◌-◌, ◌*◌, ◌/◌, ◌%◌, ◌^◌, ◌<◌, ◌≤◌, ◌⊎◌, [], length, refl, sym, subst, arith, ◌==◌, mod-lt, range_with_len, All}
use Rattle.argon2.proofs.Imports.{length-range_with_len, get_or-range_with_len, cond_both, eqb-true, nat_tests, Blocks, Context, columns, finished_segments, lane_length, made_block}
use Rattle.argon2.proofs.Imports.{permitted, previous, reference, reference_index, reference_lane, reference_of, reference_word, segment_length, MayReferTo, HasSizes, IsPlaceFor, IsStep}
use Rattle.std.proofs.lemmas.List.Elements.{All-map, All-append, All-take, All-get_or, All-nil}
use Rattle.argon2.proofs.recurrence.PermittedPlaces.{InSlice, in_slice, some_permitted}

-- The block of pass, lane and column may be made of the block of r, l and c: the newest block of lane l and
-- column c at that moment, and in another lane none of the slice at hand.
pub record Reads (ctx : Context) (pass lane column r l c : ℕ) : Type 0 where
  pub in_lanes : l < ctx.p_cost
  pub in_columns : c < lane_length ctx
  pub newest : ((r ≡ pass) × (c < column)) ⊎ ((pass ≡ suc r) × (column ≤ c))
  pub apart : (l ≡ lane)
      ⊎ ((c < column / segment_length ctx * segment_length ctx) ⊎ ((column / segment_length ctx + 1) * segment_length ctx ≤ c))

-- a property of each column is one of the list
All-columns : (P : ℕ × ℕ → Type 0) (pass from to : ℕ)
    → ((c : ℕ) → from ≤ c → c < to → P (pass, c)) → All P (columns pass from to)
unfolding columns
All-columns P pass from to h =
    All-map P (λ c. (pass, c)) (range_with_len from (to - from)) (λ k d lt.
    let lt' : k < to - from = omega (arith, length-range_with_len from (to - from)) in
    subst (λ c. P (pass, c)) (sym (get_or-range_with_len from (to - from) k d lt')) (h (from + k) (omega arith) (omega arith)))

-- ---- what may be referred to is a source, and there is some

module _ (ctx : Context) (sizes : HasSizes ctx) (lane column other : ℕ) (in_lanes : other < ctx.p_cost)
    (in_columns : column < lane_length ctx) where
  -- a pair that the block may be made of
  abbrev IsSource : ℕ → ℕ × ℕ → Type 0
  IsSource pass x = Reads ctx pass lane column x.0 other x.1

  -- the column is in its slice
  bounds : InSlice (segment_length ctx) column (column / segment_length ctx)
  bounds = in_slice (segment_length ctx) column sizes.two_columns in_columns

  -- finished segments are sources
  finished_sources : (pass : ℕ)
      → All (IsSource pass) (finished_segments ctx pass (column / segment_length ctx))
  unfolding finished_segments
  finished_sources zero = All-columns (IsSource zero) 0 0 _ (λ c low high. let b = bounds in grind arith)
  finished_sources (suc pass) = All-append (IsSource (suc pass)) _ _
      (All-columns (IsSource (suc pass)) pass _ _ (λ c low high. let b = bounds in grind arith))
      (All-columns (IsSource (suc pass)) (suc pass) 0 _ (λ c low high. let b = bounds in grind arith))

  -- all permitted blocks are sources
  permitted_sources : (pass : ℕ) → All (IsSource pass) (permitted ctx pass lane column other)
  unfolding permitted
  permitted_sources pass = cond_both (column % segment_length ctx == 0) _ _ (All (IsSource pass))
      (λ _. All-take (IsSource pass) _ _ (finished_sources pass))
      (λ _. All-append (IsSource pass) _ _ (finished_sources pass) (cond_both (other == lane) _ [] (All (IsSource pass))
      (λ e. All-columns (IsSource pass) pass _ _ (λ c low high. let b = bounds in let own = eqb-true other lane e in grind arith))
      (λ _. All-nil (IsSource pass))))

-- ---- each block is made only of its sources

-- the lane referred to is one of the lanes, and in the first slice of all the block's own
lane_referred : (ctx : Context) → HasSizes ctx → (pass lane column w : ℕ) → lane < ctx.p_cost
    → MayReferTo ctx pass lane column (reference_lane ctx pass lane column w)
unfolding reference_lane
lane_referred ctx sizes pass lane column w h =
    let small = mod-lt (w / 2 ^ 32) sizes.some_lane in grind (arith, nat_tests)

-- whatever the word, the block that it takes is a source
pub reference_reads : (ctx : Context) → HasSizes ctx → (pass lane column w : ℕ)
    → IsStep ctx pass lane column
    → Reads ctx pass lane column (reference ctx pass lane column w).pass (reference ctx pass lane column w).lane
    (reference ctx pass lane column w).column
unfolding reference reference_index
reference_reads ctx sizes pass lane column w st =
    let other = reference_lane ctx pass lane column w in
    let may = lane_referred ctx sizes pass lane column w st.in_lanes in
    let blocks = permitted ctx pass lane column other in
    let some : 0 < length blocks = some_permitted ctx sizes column st.in_columns pass lane other st.later may.alone in
    All-get_or (λ (x : ℕ × ℕ). Reads ctx pass lane column x.0 other x.1) blocks (reference_index (length blocks) w) (0, 0)
    (omega arith)
    (permitted_sources ctx sizes lane column other may.within st.in_columns pass)

-- a source is in a place for the step
pub Reads-place : (ctx : Context) → HasSizes ctx → (pass lane column r l c : ℕ)
    → Reads ctx pass lane column r l c → IsPlaceFor ctx lane column l c
Reads-place ctx sizes pass lane column r l c reads =
    let here = in_slice (segment_length ctx) c sizes.two_columns reads.in_columns in grind arith

-- blocks f and g agree wherever the block of pass, lane and column may be made of them
abbrev pub AgreeOn : (ctx : Context) (pass lane column : ℕ) → Blocks → Blocks → Type 0
AgreeOn ctx pass lane column f g = (r l c : ℕ) → Reads ctx pass lane column r l c → f r l c ≡ g r l c

-- such blocks have one previous block
previous_cong : (ctx : Context) → HasSizes ctx → (pass lane column : ℕ)
    → IsStep ctx pass lane column → (f g : Blocks) → AgreeOn ctx pass lane column f g
    → previous ctx f pass lane column ≡ previous ctx g pass lane column
unfolding previous
previous_cong ctx sizes pass lane zero st f g h =
    let two = sizes.two_columns in h (pass - 1) lane (lane_length ctx - 1) (grind arith)
previous_cong ctx sizes pass lane (suc column) st f g h = h pass lane column (grind arith)

module _ (ctx : Context) (sizes : HasSizes ctx) (pass lane column : ℕ) (st : IsStep ctx pass lane column) (f g : Blocks)
    (h : AgreeOn ctx pass lane column f g) where
  -- such blocks have one reference
  pub reference_of_cong : reference_of ctx f pass lane column ≡ reference_of ctx g pass lane column
  unfolding reference_of reference_word
  reference_of_cong = rw (previous_cong ctx sizes pass lane column st f g h) refl

  -- such blocks make one block
  pub made_cong : made_block ctx f pass lane column ≡ made_block ctx g pass lane column
  unfolding made_block reference_of
  made_cong =
      let from = reference_of ctx f pass lane column in
      let same = reference_of_cong in
      let previous = previous_cong ctx sizes pass lane column st f g h in
      let read = h from.pass from.lane from.column
      (reference_reads ctx sizes pass lane column (reference_word ctx f pass lane column) st) in
      let own : 0 < pass → f (pass - 1) lane column ≡ g (pass - 1) lane column = λ some. h (pass - 1) lane column (grind arith) in
      grind (arith, nat_tests)
