-- Segments that are filled on the parts of a memory, slice by slice, lead to the tag.
use Rattle.argon2.proofs.Imports.{◌≡◌, ℕ, zero, suc, ◌+◌, ◌-◌, ◌*◌, ◌/◌, ◌%◌, ◌<◌, ◌≤◌, inl, inr, List, [], map, length, refl, sym, ap, ◌∙◌, subst, arith, drop, slice_index_or, take}
use Rattle.argon2.proofs.Imports.{range_with_len, le-div, mod-lt, div-mul-add, div_below, mod-mul-add, mul-add-lt, cases_lt, get_or-drop, get_or-take, get_or-map-range_with_len}
use Rattle.argon2.proofs.Imports.{length-map-range_with_len, bytes_of, long_hash, Context, FirstColumns, block_count, block_of, first_block, lane_length, last_block, segment_length, tag_of}
use Rattle.argon2.proofs.Imports.{Memory, HasSizes, AreParts, BeginsSlices, FillsSegment, IsFilledBySegments, last_of_slice, segment_in, slice_length, slices_after, slices_before}
use Rattle.argon2.proofs.Imports.{HasBlocksUpTo, columns_before, nat_tests, turn_count, div-add-mod'}
use Rattle.argon2.proofs.recurrence.PermittedPlaces.{in_slice}
use Rattle.argon2.proofs.context_lemmas.Filling.{filled_at_first, next_pass}
use Rattle.argon2.proofs.context_lemmas.InMemory.{place_below}
use Rattle.argon2.proofs.context_lemmas.LastColumn.{xor_lanes_cong}
use Rattle.argon2.proofs.context_lemmas.Schedules.{turn_count-le}
use Rattle.argon2.proofs.context_lemmas.SegmentColumns.{in_lane}

-- a memory that stands slice after slice, lane after lane
pub in_lanes : Context → Memory → Memory
in_lanes ctx memory =
    let s = segment_length ctx in
    map (λ place.
    let lane = place / lane_length ctx in
    let column = place % lane_length ctx in
    slice_index_or memory ((column / s * ctx.p_cost + lane) * s + column % s) [])
    (range_with_len 0 (block_count ctx))

-- it has as many blocks as are filled
length-in_lanes : (ctx : Context) (memory : Memory) → length (in_lanes ctx memory) ≡ block_count ctx
unfolding in_lanes
length-in_lanes ctx memory = length-map-range_with_len _ 0 (block_count ctx)

-- its block of a lane, a slice and an index
in_lanes_at : (ctx : Context) (memory : Memory) (k lane i : ℕ) → k < 4 → lane < ctx.p_cost → i < segment_length ctx
    → slice_index_or (in_lanes ctx memory) (lane * lane_length ctx + (k * segment_length ctx + i)) []
    ≡ slice_index_or memory ((k * ctx.p_cost + lane) * segment_length ctx + i) []
unfolding in_lanes
in_lanes_at ctx memory k lane i four l h =
    let s = segment_length ctx in
    let q = lane_length ctx in
    let column = k * s + i in
    let n = lane * q + column in
    let high : column < q = in_lane s k i four h in
    get_or-map-range_with_len _ 0 (block_count ctx) n n [] (place_below ctx lane column l high) (omega arith)
    ∙ rw (div-mul-add lane q column high, mod-mul-add lane q column high, div-mul-add k s i h, mod-mul-add k s i h) refl

-- the parts of a memory are parts of it
parts_of : (ctx : Context) (slice lane : ℕ) (memory : Memory) → slice < 4 → lane < ctx.p_cost
    → AreParts ctx slice lane (in_lanes ctx memory) (slices_before ctx slice memory) (segment_in ctx slice lane memory)
    (slices_after ctx slice memory)
parts_of ctx slice lane memory four own =
    let s = segment_length ctx in
    let p = ctx.p_cost in
    record {
      in_before = λ k l i below a lt.
          let row = mul-add-lt k p l slice below a in
          let place = mul-add-lt (k * p + l) s i (p * slice) row lt in
          grind (arith, get_or-take (slice * slice_length ctx) memory ((k * p + l) * s + i), in_lanes_at ctx memory k l i);
      in_own = λ i lt.
          let start = slice * slice_length ctx + lane * s in
          grind (arith, get_or-take s (drop start memory) i, get_or-drop start memory i, in_lanes_at ctx memory slice lane i);
      in_after = λ k l i above below a lt.
          let j = k - suc slice in
          let more : suc slice + j ≡ k = omega arith in
          let place = ap (λ x. (x * p + l) * s + i) more in
          grind (arith, get_or-drop (suc slice * slice_length ctx) memory ((j * p + l) * s + i), in_lanes_at ctx memory k l i);
    }

-- a slice whose segments are filled is filled
pub slice_fills : (ctx : Context) → HasSizes ctx → (first : FirstColumns) (pass slice : ℕ) (memory memory' : Memory) → slice < 4
    → ((lane : ℕ) → lane < ctx.p_cost → FillsSegment ctx pass slice lane (slices_before ctx slice memory)
    (segment_in ctx slice lane memory) (segment_in ctx slice lane memory') (slices_after ctx slice memory))
    → slices_before ctx slice memory' ≡ slices_before ctx slice memory
    → slices_after ctx slice memory' ≡ slices_after ctx slice memory
    → HasBlocksUpTo ctx first pass (λ _. columns_before ctx pass slice) (in_lanes ctx memory)
    → HasBlocksUpTo ctx first pass (λ _. columns_before ctx pass (suc slice)) (in_lanes ctx memory')
slice_fills ctx sizes first pass slice memory memory' four fills before after h =
    let s = segment_length ctx in
    let two = sizes.two_columns in
    let later : turn_count ctx pass (suc slice) ≡ s = grind (arith, nat_tests) in
    let few = turn_count-le ctx pass slice in
    let Is = λ (r l c : ℕ). slice_index_or (in_lanes ctx memory') (l * lane_length ctx + c) [] ≡ block_of ctx first r l c in
    let one = λ (l : ℕ). parts_of ctx slice l memory four in
    let other = λ (l : ℕ). parts_of ctx slice l memory' four in
    record {
      size = length-in_lanes ctx memory';
      new = λ l c a below lt.
          let k = c / s in
          let i = c % s in
          let small : i < s = mod-lt c (omega arith) in
          subst (Is pass l) (div-add-mod' c s) (elim (cases_lt k slice) [
            | inl low ↦ (
                let row = mul-add-lt k s i slice low small in
                let new = h.new l (k * s + i) a (omega (arith, div-add-mod' c s)) (omega arith) in
                cc ((one l a).in_before k l i low a small, (other l a).in_before k l i low a small))
            | inr high ↦ (
                let low = div_below c s (slice + 1) (omega arith) (omega arith) in
                let same : k ≡ slice = omega arith in
                rw same (cc ((other l a).in_own i small, (fills l a).made first (in_lanes ctx memory) (one l a) h i small)))
          ]);
      old = λ r l c turn a below le.
          let k = c / s in
          let i = c % s in
          let small : i < s = mod-lt c (omega arith) in
          let here = in_slice s c two below in
          let above = le-div (suc slice) c s (omega arith) (omega arith) in
          let old = h.old r l (k * s + i) turn a (omega (arith, div-add-mod' c s)) (omega (arith, div-add-mod' c s)) in
          subst (Is r l) (div-add-mod' c s)
          (cc (
            (one l a).in_after k l i above here.one_of_four a small,
            (other l a).in_after k l i above here.one_of_four a small,
          ));
    }

-- a first slice that was begun is where pass 0 begins
pub slices_begun : (ctx : Context) (first : FirstColumns) (old memory : Memory)
    → BeginsSlices ctx first old (take (slice_length ctx) memory)
    → HasBlocksUpTo ctx first 0 (λ _. columns_before ctx 0 0) (in_lanes ctx memory)
slices_begun ctx first old memory is = filled_at_first ctx is.sizes first (in_lanes ctx memory) (record {
  size = length-in_lanes ctx memory;
  columns = λ lane column l small.
      let s = segment_length ctx in
      let two = is.sizes.two_columns in
      let within = mul-add-lt lane s column ctx.p_cost l (omega arith) in
      let taken = get_or-take (slice_length ctx) memory (lane * s + column) [] in
      grind (arith, in_lanes_at ctx memory 0 lane column, is.columns lane column);
})

module _ (ctx : Context) (first : FirstColumns) (memory : ℕ → ℕ → Memory) (is : IsFilledBySegments ctx first memory) where
  sizes : HasSizes ctx
  sizes = is.begins.1.sizes

  -- the slices of a pass are filled one after the other
  slices_filled : (pass slice : ℕ) → pass < ctx.t_cost → slice ≤ 4
      → HasBlocksUpTo ctx first pass (λ _. columns_before ctx pass 0) (in_lanes ctx (memory pass 0))
      → HasBlocksUpTo ctx first pass (λ _. columns_before ctx pass slice) (in_lanes ctx (memory pass slice))
  slices_filled pass zero t four h = h
  slices_filled pass (suc slice) t four h =
      slice_fills ctx sizes first pass slice (memory pass slice) (memory pass (suc slice)) (omega arith)
      (λ lane l. is.fills pass slice lane t (omega arith) l)
      (is.before pass slice t (omega arith)) (is.after pass slice t (omega arith))
      (slices_filled pass slice t (omega arith) h)

  -- the passes are filled one after the other
  passes_filled : (pass : ℕ) → pass < ctx.t_cost
      → HasBlocksUpTo ctx first pass (λ _. columns_before ctx pass 0) (in_lanes ctx (memory pass 0))
  passes_filled zero t = slices_begun ctx first is.begins.0 (memory 0 0) is.begins.1
  passes_filled (suc pass) t =
      subst (λ (m : Memory). HasBlocksUpTo ctx first (suc pass) (λ _. columns_before ctx (suc pass) 0) (in_lanes ctx m))
      (sym (is.next pass t))
      (next_pass ctx first pass (in_lanes ctx (memory pass 4))
      (slices_filled pass 4 (omega arith) (omega arith) (passes_filled pass (omega arith))))

-- the last column's hash is the tag
pub segments_give_tag : (ctx : Context) (password salt : List ℕ) (n : ℕ) (memory : ℕ → ℕ → Memory)
    → IsFilledBySegments ctx (first_block ctx password salt n) memory
    → long_hash n (bytes_of (last_of_slice ctx (slices_after ctx 2 (memory (ctx.t_cost - 1) 4)))) ≡ tag_of ctx password salt n
unfolding tag_of last_block
segments_give_tag ctx password salt n memory is =
    let s = segment_length ctx in
    let p = ctx.p_cost in
    let first = first_block ctx password salt n in
    let last = ctx.t_cost - 1 in
    let end = memory last 4 in
    let some = is.begins.1.sizes.some_pass in
    let two = is.begins.1.sizes.two_columns in
    let later : turn_count ctx (suc last) 0 ≡ s = grind (arith, nat_tests) in
    let filled = next_pass ctx first last (in_lanes ctx end) (slices_filled ctx first memory is last 4 (omega arith)
    (omega arith) (passes_filled ctx first memory is last (omega arith))) in
    ap (λ block. long_hash n (bytes_of block)) (xor_lanes_cong ctx _ _ (λ lane l.
    let column : 3 * s + (s - 1) ≡ lane_length ctx - 1 = omega arith in
    let dropped = get_or-drop (3 * slice_length ctx) end (lane * s + (s - 1)) [] in
    let made = filled.old last lane (3 * s + (s - 1)) in
    grind (arith, in_lanes_at ctx end 3 lane (s - 1))))
