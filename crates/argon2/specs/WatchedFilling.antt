-- The references that a watched hash records, and how often it mixes two blocks.
use Rattle.std.specs.Prelude.{◌≡◌, ℕ, suc, ◌+◌, ◌-◌, ◌*◌, ◌<◌, ◌≤◌, ◌⊎◌, ◌==◌, List, [], length, nat_lt, slice_index, slice_index_or, if◌then◌else◌, zero}
use Rattle.argon2.specs.declared.context.watch.Watch.{Watch}
use Rattle.argon2.specs.Rfc9106.{Context, FirstColumns, address_counter, block_count, block_of, is_independent, lane_length, segment_length}
use Rattle.argon2.specs.Layout.{Memory, matrix, reference_places}
use Rattle.argon2.specs.Steps.{IsStep, turn_count}

-- ---- the references

-- the length of a list with one place for each pass and block
abbrev pub place_count : Context → ℕ
place_count ctx = ctx.t_cost * block_count ctx

-- the index in that list of a block's reference
abbrev pub position_index : Context → ℕ → ℕ → ℕ → ℕ
position_index ctx pass lane column = pass * block_count ctx + (lane * lane_length ctx + column)

-- The list after all steps has each block's reference. At columns 0 and 1 of pass 0 it is unchanged.
pub record AreReferencePlaces (ctx : Context) (first : FirstColumns) (old new : List ℕ) : Type 0
  where
    pub of_steps : (pass lane column : ℕ) → pass < ctx.t_cost → IsStep ctx pass lane column →
        slice_index new (position_index ctx pass lane column)
        ≡ reference_places ctx first pass lane column
    pub of_first_columns : (lane column : ℕ) → lane < ctx.p_cost → column < 2 →
        slice_index new (position_index ctx 0 lane column)
        ≡ slice_index old (position_index ctx 0 lane column)

-- After all steps the memory is the matrix, and the list has the references if it has a place for each.
pub record IsFilledFrom (ctx : Context) (first : FirstColumns) (memory : Memory) (old new : List ℕ) : Type 0
  where
    pub matrix : memory ≡ matrix ctx first
    pub positions : length old ≡ place_count ctx → AreReferencePlaces ctx first old new

-- ---- during a pass

-- The first done(lane) columns of each lane have the blocks of this pass, and the others have the blocks of the pass before.
pub record HasBlocksUpTo (ctx : Context) (first : FirstColumns) (pass : ℕ) (done : ℕ → ℕ) (memory : Memory) : Type 0
  where
    pub size : length memory ≡ block_count ctx
    pub new : (lane column : ℕ) → lane < ctx.p_cost → column < lane_length ctx → column < done lane →
        slice_index_or memory (lane * lane_length ctx + column) [] ≡ block_of ctx first pass lane column
    pub old : (before lane column : ℕ) →
        pass ≡ suc before → lane < ctx.p_cost → column < lane_length ctx → done lane ≤ column →
        slice_index_or memory (lane * lane_length ctx + column) [] ≡ block_of ctx first before lane column

-- The list has the references of all blocks up to that moment. At columns 0 and 1 of pass 0 it is unchanged.
pub record HasPositionsUpTo (ctx : Context) (first : FirstColumns) (pass : ℕ) (done : ℕ → ℕ) (old new : List ℕ) : Type 0
  where
    pub size : length new ≡ place_count ctx
    pub of_steps : (r lane column : ℕ) → r < ctx.t_cost → IsStep ctx r lane column →
        (r < pass) ⊎ ((r ≡ pass) × (column < done lane)) →
        slice_index new (position_index ctx r lane column) ≡ reference_places ctx first r lane column
    pub of_first_columns : (lane column : ℕ) → lane < ctx.p_cost → column < 2 →
        slice_index new (position_index ctx 0 lane column)
        ≡ slice_index old (position_index ctx 0 lane column)

-- The memory has those blocks, and the list has those references if it has a place for each reference.
pub record IsFilledUpTo (ctx : Context) (first : FirstColumns) (pass : ℕ) (done : ℕ → ℕ) (memory : Memory)
    (old new : List ℕ) : Type 0 where
  pub blocks : HasBlocksUpTo ctx first pass done memory
  pub positions : length old ≡ place_count ctx → HasPositionsUpTo ctx first pass done old new

-- A memory and a list that are filled up to `done` are then filled up to `done'`.
abbrev pub Fills : Context → ℕ → (ℕ → ℕ) → (ℕ → ℕ) → Memory → Memory → List ℕ → List ℕ → Type 0
Fills ctx pass done done' memory memory' places places' = (first : FirstColumns) (old : List ℕ) →
    IsFilledUpTo ctx first pass done memory old places → IsFilledUpTo ctx first pass done' memory' old places'

-- the number of columns of each lane that are made when a slice begins
abbrev pub columns_before : Context → ℕ → ℕ → ℕ
columns_before ctx pass slice = (slice + 1) * segment_length ctx - turn_count ctx pass slice

-- the number of columns of lane `other` that are made, if lanes are filled in order and `lane` has reached `column`
abbrev pub in_order : Context → ℕ → ℕ → ℕ → ℕ → ℕ → ℕ
in_order ctx pass slice lane column other =
    if nat_lt other lane then (slice + 1) * segment_length ctx
    else if other == lane then column else columns_before ctx pass slice

-- ---- the mixings

-- a watch that keeps its list of places and counts n more mixings
pub record Watches (n : ℕ) (old new : Watch) : Type 0 where
  pub list : new.positions.ghost_name ≡ old.positions.ghost_name
  pub count : new.work ≡ old.work + n

-- the number of segments with address blocks: all segments of Argon2i, and slices 0 and 1 of pass 0 of Argon2id
unfoldable pub independent_segments : Context → ℕ
independent_segments ctx =
    if ctx.algorithm == 1 then 4 * ctx.t_cost * ctx.p_cost
    else if ctx.algorithm == 2 then 2 * ctx.p_cost else 0

-- the number of mixings: one for each block except columns 0 and 1 of pass 0, and two for each address block
unfoldable pub mixing_calls : Context → ℕ
mixing_calls ctx = ctx.t_cost * block_count ctx - 2 * ctx.p_cost
    + 2 * address_counter (segment_length ctx - 1) * independent_segments ctx

-- the mixings of a segment's address blocks, up to the address block of an index
unfoldable pub address_mixings : Context → ℕ → ℕ → ℕ → ℕ
address_mixings ctx pass slice index =
    if is_independent ctx pass slice then 2 * address_counter index else 0

-- the mixings of one segment
unfoldable pub segment_calls : Context → ℕ → ℕ → ℕ
segment_calls ctx pass slice =
    address_mixings ctx pass slice (segment_length ctx - 1) + turn_count ctx pass slice

-- the mixings of the first slices of a pass
unfoldable pub slices_calls : Context → ℕ → ℕ → ℕ
slices_calls ctx pass zero = 0
slices_calls ctx pass (suc slice) =
    slices_calls ctx pass slice + ctx.p_cost * segment_calls ctx pass slice
