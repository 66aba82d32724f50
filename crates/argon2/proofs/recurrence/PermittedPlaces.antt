-- What may be referred to, as numbers: how many blocks, and in which columns.
use Rattle.argon2.proofs.Imports.{◌≡◌, ℕ, zero, suc, ◌+◌, ◌-◌, ◌*◌, ◌/◌, ◌%◌, ◌<◌, ◌≤◌, [], length, refl, ap, ◌∙◌, arith, slice_index_or, nat_lt, ◌==◌, if◌then◌else◌}
use Rattle.argon2.proofs.Imports.{mul-le-mul_right, div-lt_iff_lt-mul, div-mul-le_self, lt-mul-div-succ, range_with_len, length-map, length-take, get_or_append_left, get_or-append_right}
use Rattle.argon2.proofs.Imports.{get_or-take, get_or-map-range_with_len, length-range_with_len, nat_tests, Context, columns, finished_segments, lane_length, permitted}
use Rattle.argon2.proofs.Imports.{segment_length, HasSizes, div-add-mod', length-append}

-- a column c of a slice, for segments of s columns
pub record InSlice (s c slice : ℕ) : Type 0 where
  pub above : slice * s ≤ c
  pub below : c < (slice + 1) * s
  pub whole : (slice + 1) * s ≤ 4 * s
  pub one_of_four : slice < 4

-- each column of a lane is one of its slice
pub in_slice : (s c : ℕ) → 2 ≤ s → c < 4 * s → InSlice s c (c / s)
in_slice s c two h =
    let one : c / s < 4 = (div-lt_iff_lt-mul {k = s} {x = c} {y = 4} (omega arith)).1 h in
    let m : (c / s + 1) * s ≤ 4 * s = mul-le-mul_right s (omega arith) in
    let e : c < s * (c / s + 1) = lt-mul-div-succ c (omega arith) in
    record { above = div-mul-le_self c s; below = omega arith; whole = m; one_of_four = one }

-- how many pairs a list of columns has
pub length-columns : (pass from to : ℕ) → length (columns pass from to) ≡ to - from
unfolding columns
length-columns pass from to = length-map (range_with_len from (to - from)) (λ c. (pass, c))
    ∙ length-range_with_len from (to - from)

-- the column at an index of a list of columns
get_or-columns : (pass from to i : ℕ) → i < to - from
    → (slice_index_or (columns pass from to) i (0, 0)).1 ≡ from + i
unfolding columns
get_or-columns pass from to i h =
    ap (λ (x : ℕ × ℕ). x.1) (get_or-map-range_with_len (λ c. (pass, c)) from (to - from) i (from + i) (0, 0) h refl)

-- how many blocks of finished segments there are
abbrev pub finished_count : Context → ℕ → ℕ → ℕ
finished_count ctx pass slice = if pass == 0 then slice * segment_length ctx else lane_length ctx - segment_length ctx

-- the column of the one at an index, which goes round at the lane's end
abbrev pub finished_column : Context → ℕ → ℕ → ℕ → ℕ
finished_column ctx pass slice i =
    let next = (slice + 1) * segment_length ctx + i in
    if pass == 0 then i else if nat_lt next (lane_length ctx) then next else next - lane_length ctx

module _ (ctx : Context) (sizes : HasSizes ctx) (column : ℕ) (in_columns : column < lane_length ctx) where
  -- the column is in its slice
  bounds : InSlice (segment_length ctx) column (column / segment_length ctx)
  bounds = in_slice (segment_length ctx) column sizes.two_columns in_columns

  -- the finished segments have that count
  length-finished : (pass : ℕ)
      → length (finished_segments ctx pass (column / segment_length ctx)) ≡ finished_count ctx pass (column / segment_length ctx)
  unfolding finished_segments
  length-finished zero = length-columns 0 0 _ ∙ omega arith
  length-finished (suc pass) =
      let from = (column / segment_length ctx + 1) * segment_length ctx in
      let to = column / segment_length ctx * segment_length ctx in
      let both = length-append (columns pass from (lane_length ctx)) (columns (suc pass) 0 to) in
      grind (arith, bounds, length-columns pass from (lane_length ctx), length-columns (suc pass) 0 to, nat_tests)

  -- the one at an index has that column
  get_or-finished : (pass i : ℕ) → i < length (finished_segments ctx pass (column / segment_length ctx))
      → (slice_index_or (finished_segments ctx pass (column / segment_length ctx)) i (0, 0)).1
      ≡ finished_column ctx pass (column / segment_length ctx) i
  unfolding finished_segments
  get_or-finished zero i h =
      let l = length-columns 0 0 (column / segment_length ctx * segment_length ctx) in
      get_or-columns 0 0 _ i (omega arith) ∙ omega arith
  get_or-finished (suc pass) i h =
      let xs = columns pass ((column / segment_length ctx + 1) * segment_length ctx) (lane_length ctx) in
      let ys = columns (suc pass) 0 (column / segment_length ctx * segment_length ctx) in
      let left = get_or_append_left xs ys (0, 0) i in
      let right = get_or-append_right xs ys (length xs) i (0, 0) refl in
      grind (arith, bounds, length-append xs ys, length-columns, get_or-columns, nat_tests)

  -- how many permitted blocks there are
  pub length-permitted : (pass lane other : ℕ) → (pass ≡ 0 → 2 ≤ column)
      → length (permitted ctx pass lane column other)
      ≡ (let finished = finished_count ctx pass (column / segment_length ctx) in
      let index = column % segment_length ctx in
      if index == 0 then finished - 1 else finished + (if other == lane then index - 1 else 0))
  unfolding permitted
  length-permitted pass lane other later =
      let split = div-add-mod' column (segment_length ctx) in
      grind (arith, length-finished pass, length-columns, length-append {A = ℕ × ℕ}, length-take {A = ℕ × ℕ}, nat_tests)

  -- some block is permitted, if in the first slice of all the lane itself is asked
  pub some_permitted : (pass lane other : ℕ) → (pass ≡ 0 → 2 ≤ column)
      → (pass ≡ 0 → column / segment_length ctx ≡ 0 → other ≡ lane) → 0 < length (permitted ctx pass lane column other)
  some_permitted pass lane other later alone =
      let s = segment_length ctx in
      let two = sizes.two_columns in
      let here = bounds in
      let split : column / s * s + column % s ≡ column = div-add-mod' column s in
      let more : 0 < column / s → 1 * s ≤ column / s * s = λ some. mul-le-mul_right s some in
      rw (length-permitted pass lane other later) (grind (arith, nat_tests))

  -- the column of the permitted block at an index
  pub get_or-permitted : (pass lane other i : ℕ)
      → i < length (permitted ctx pass lane column other)
      → (slice_index_or (permitted ctx pass lane column other) i (0, 0)).1
      ≡ finished_column ctx pass (column / segment_length ctx) i
  unfolding permitted
  get_or-permitted pass lane other i h =
      let f = finished_segments ctx pass (column / segment_length ctx) in
      let own = columns pass (column / segment_length ctx * segment_length ctx) (column - 1) in
      let size = length-finished pass in
      let taken = get_or-take (length f - 1) f i (0, 0) in
      let left = get_or_append_left f own (0, 0) i in
      let right = get_or-append_right f own (length f) i (0, 0) refl in
      let alone = get_or_append_left f [] (0, 0) i in
      grind (
        arith,
        bounds,
        get_or-finished pass i,
        length-columns,
        get_or-columns,
        length-append {A = ℕ × ℕ},
        length-take {A = ℕ × ℕ},
        nat_tests,
      )
