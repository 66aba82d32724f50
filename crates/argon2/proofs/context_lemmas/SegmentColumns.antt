-- The columns of a segment, by their index in it, and the address blocks that they take.
use Rattle.argon2.proofs.Imports.{◌≡◌, ℕ, zero, suc, refl, ◌+◌, ◌-◌, ◌*◌, ◌/◌, ◌%◌, ◌<◌, ◌≤◌, ◌≢◌, ◌⊎◌, arith, nat_tests, mod-eq-sub-div-mul, mod-lt, mul-le-mul_right, div-mul-add}
use Rattle.argon2.proofs.Imports.{mod-mul-add, mul-add-lt, Context, segment_length, HasSizes, column_of, IsStepAt, Step, Some, None, ap, if◌then◌else◌, address_block, is_independent}
use Rattle.argon2.proofs.Imports.{addresses_at, address_mixings, div-add-mod'}
use Rattle.argon2.proofs.recurrence.PermittedPlaces.{InSlice, in_slice, get_or-permitted, length-permitted}

-- one address block serves 128 indexes
pub same_addresses : (ctx : Context) (pass lane slice i j : ℕ) → i / 128 ≡ j / 128
    → addresses_at ctx pass lane slice i ≡ addresses_at ctx pass lane slice j
unfolding addresses_at
same_addresses ctx pass lane slice i j same =
    ap (λ n. (if is_independent ctx pass slice then Some (address_block ctx pass lane slice (n + 1)) else None)) same

-- within a block of 128 indexes no more is mixed
pub same_mixings : (ctx : Context) (pass slice i j : ℕ) → i / 128 ≡ j / 128
    → address_mixings ctx pass slice i ≡ address_mixings ctx pass slice j
unfolding address_mixings
same_mixings ctx pass slice i j same = ap (λ n. (if is_independent ctx pass slice then 2 * (n + 1) else 0)) same

-- two for the first
pub first_mixings : (ctx : Context) (pass slice : ℕ)
    → address_mixings ctx pass slice 0 ≡ (if is_independent ctx pass slice then 2 else 0)
unfolding address_mixings
first_mixings ctx pass slice = refl

-- each address block takes two mixings
pub next_mixings : (ctx : Context) (pass slice i j : ℕ) → j / 128 ≡ i / 128 + 1
    → address_mixings ctx pass slice j ≡ address_mixings ctx pass slice i + (if is_independent ctx pass slice then 2 else 0)
unfolding address_mixings
next_mixings ctx pass slice i j next = grind arith

-- they are few
pub few_mixings : (ctx : Context) (pass slice index : ℕ) → address_mixings ctx pass slice index ≤ 2 * (index / 128 + 1)
unfolding address_mixings
few_mixings ctx pass slice index = grind arith

-- at an index that begins no address block the one at hand serves on
pub serves_on : (index : ℕ) → (index % 128 ≢ 0) ⊎ (index ≤ 0) → (index - 1) / 128 ≡ index / 128
serves_on index e = grind arith

-- at any other index the next address block begins
pub serves_next : (index : ℕ) → 0 < index → index % 128 ≡ 0 → index / 128 ≡ (index - 1) / 128 + 1
serves_next index some e = omega arith

-- a column of a segment is one of its lane
pub in_lane : (n slice index : ℕ) → slice < 4 → index < n → slice * n + index < 4 * n
in_lane n slice index h k =
    omega (arith, mul-add-lt slice n index 4 h k)

-- an index of a segment is a step, from column 2 on in pass 0
pub a_step : (ctx : Context) → HasSizes ctx → (at : Step) → at.lane < ctx.p_cost → at.slice < 4 → at.index < segment_length ctx
    → (at.pass ≡ 0 → 2 ≤ column_of ctx at) → IsStepAt ctx at
a_step ctx sizes at l h k later = record {
  sizes = sizes;
  step = record { in_lanes = l; in_columns = in_lane (segment_length ctx) at.slice at.index h k; later = later };
  in_slices = h;
  in_segment = k;
}

-- its column is one of its slice
pub a_column : (ctx : Context) (at : Step) → IsStepAt ctx at → InSlice (segment_length ctx) (column_of ctx at) at.slice
a_column ctx at st =
    let n = segment_length ctx in
    let few = st.in_slices in
    let low = st.in_segment in
    record { above = omega arith; below = omega arith; whole = mul-le-mul_right n (omega arith); one_of_four = few }

-- the slice of a column is the step's slice
pub slice_of_column : (ctx : Context) (at : Step) → at.index < segment_length ctx
    → column_of ctx at / segment_length ctx ≡ at.slice
slice_of_column ctx at h = div-mul-add at.slice (segment_length ctx) at.index h

-- and the index that in the segment
pub index_of_column : (ctx : Context) (at : Step) → at.index < segment_length ctx
    → column_of ctx at % segment_length ctx ≡ at.index
index_of_column ctx at h = mod-mul-add at.slice (segment_length ctx) at.index h

-- each index of a segment is a step, and its address blocks take few mixings
pub ruleset steps = (a_step, few_mixings)

-- which address block serves a step
pub ruleset served = (serves_on, serves_next, next_mixings, same_addresses, same_mixings)

-- where a column is in its slice
pub ruleset in_its_slice = (slice_of_column, mod-eq-sub-div-mul, mod-lt, div-add-mod', in_slice)

-- which block a step refers to
pub ruleset references = (nat_tests, length-permitted, get_or-permitted, slice_of_column, index_of_column)

-- a later slice begins at column 2 or above
pub later_slice : (slice segment start : ℕ) → slice ≢ 0 → 2 ≤ segment → 2 ≤ slice * segment + start
later_slice slice segment start some two = grind arith
