-- Hashing by an `Argon2`: when a call is refused, and what it writes.
use Rattle.std.specs.Prelude.{◌≡◌, ℕ, ◌+◌, ◌*◌, ◌^◌, ◌<◌, ◌≤◌, ◌⊎◌, List, [], ◌++◌, Option, Some, None, Result, Err, IfErr, length, take, drop, slice_index_or}
use Rattle.argon2_base.specs.declared.error.Error.{Error}
use Rattle.argon2_base.specs.declared.error.Error.TheVariants.{OutOfMemory}
use Rattle.argon2.specs.declared.context.Argon2.{Argon2}
use Rattle.argon2.specs.Argon2.{context_of, own_parameters}
use Rattle.argon2.specs.Rfc9106.{Context, IsValid, block_count, first_block, lane_length, tag_of}
use Rattle.argon2.specs.Layout.{Memory, HasSizes, matrix_of}
use Rattle.argon2.specs.WatchedFilling.{AreReferencePlaces, place_count}
use Rattle.argon2.specs.Laws.{Begins}
use Rattle.argon2.specs.Refusals.{answer_unless, first_of, output_faults, input_faults, memory_faults}
use Rattle.argon2.specs.Steps.{reference_place, step}

-- ---- refusals

-- the fault of an output of n bytes
abbrev pub output_refusal : Argon2 → ℕ → Option Error
output_refusal argon2 n = first_of (output_faults (own_parameters argon2).output_len n)

-- the first fault of an output of n bytes, a password, a salt and `blocks` blocks of lent memory
abbrev pub refusal_of : Argon2 → ℕ → List ℕ → List ℕ → ℕ → Option Error
refusal_of argon2 n password salt blocks = first_of (
    output_faults (own_parameters argon2).output_len n
    ++ input_faults (length password) (length salt)
    ++ memory_faults (block_count (context_of argon2)) blocks)

-- the first fault of filling memory, which writes no output
abbrev pub fill_refusal : Argon2 → List ℕ → List ℕ → ℕ → Option Error
fill_refusal argon2 password salt blocks = first_of (input_faults (length password) (length salt)
    ++ memory_faults (block_count (context_of argon2)) blocks)

-- the answer of a call that requests memory before its tests: no memory, or the refusal, or Ok if nothing is refused
abbrev pub AsksFirst : Option Error → Result (Unit {0}) Error → Type 0
AsksFirst refusal result = (result ≡ Err OutOfMemory) ⊎ (result ≡ answer_unless refusal tt)

-- the answer of a call that requests memory after its tests: the refusal, or if nothing is refused Ok or no memory
abbrev pub ChecksFirst : Option Error → Result (Unit {0}) Error → Type 0
ChecksFirst (Some fault) result = result ≡ Err fault
ChecksFirst None result = IfErr result (λ e. e ≡ OutOfMemory)

-- a length that an output may have if the parameters set no length
abbrev pub IsOutputLength : ℕ → Type 0
IsOutputLength n = (4 ≤ n) × (n < 2 ^ 32)

-- ---- lent memory

-- the blocks that a hash fills: the first blocks of the memory, lane after lane
abbrev pub blocks_of : Context → Memory → Memory
blocks_of ctx memory = take (block_count ctx) memory

-- The blocks after them are unchanged.
abbrev pub KeepsRest : Context → Memory → Memory → Type 0
KeepsRest ctx old new = drop (block_count ctx) new ≡ drop (block_count ctx) old

-- The blocks of columns 2 and above are unchanged.
abbrev pub KeepsOtherColumns : Context → Memory → Memory → Type 0
KeepsOtherColumns ctx old new =
    (lane column : ℕ) → lane < ctx.p_cost → 2 ≤ column → column < lane_length ctx →
    slice_index_or new (lane * lane_length ctx + column) []
    ≡ slice_index_or old (lane * lane_length ctx + column) []

-- The costs are accepted; the first blocks hold the matrix for a tag of n bytes; the list, if it has a place for each block,
-- holds the references; the blocks after them are unchanged.
pub record FillsFront (ctx : Context) (password salt : List ℕ) (n : ℕ) (old new : Memory) (places places' : List ℕ) : Type 0
  where
    pub sizes : HasSizes ctx
    pub matrix : blocks_of ctx new ≡ matrix_of ctx password salt n
    pub positions : length places ≡ place_count ctx →
        AreReferencePlaces ctx (first_block ctx password salt n) places places'
    pub rest : KeepsRest ctx old new

-- ---- what a call writes

-- A hash for a tag of n bytes is begun: the context is valid and has at most 32 bytes of associated data, columns 0 and 1 of
-- each lane are made, and all other blocks are unchanged.
pub record IsBegun (argon2 : Argon2) (password salt : List ℕ) (n : ℕ) (old new : Memory) : Type 0
  where
    pub valid : IsValid (context_of argon2)
    pub associated : length (context_of argon2).associated ≤ 32
    pub begins : let ctx = context_of argon2 in
        Begins ctx (first_block ctx password salt n) (blocks_of ctx new)
    pub others : KeepsOtherColumns (context_of argon2) old new
    pub rest : KeepsRest (context_of argon2) old new

-- The block of a pass, a lane and a column is made, other blocks are unchanged, and `referred` is the place of its reference.
pub record IsStepped (ctx : Context) (pass lane column : ℕ) (old new : Memory) (referred : ℕ) : Type 0
  where
    pub step : blocks_of ctx new ≡ step ctx (blocks_of ctx old) pass lane column
    pub rest : KeepsRest ctx old new
    pub place : referred ≡ reference_place ctx (blocks_of ctx old) pass lane column

-- The first blocks are the matrix for a tag of n bytes, and the rest is unchanged.
pub record IsFilled (argon2 : Argon2) (password salt : List ℕ) (n : ℕ) (old new : Memory) : Type 0
  where
    pub matrix : let ctx = context_of argon2 in blocks_of ctx new ≡ matrix_of ctx password salt n
    pub rest : KeepsRest (context_of argon2) old new

-- The context is valid and has at most 32 bytes of associated data, the output is the tag, the first blocks are the matrix, and
-- the rest is unchanged.
pub record IsHashed (argon2 : Argon2) (password salt output : List ℕ) (old new : Memory) : Type 0
  where
    pub valid : IsValid (context_of argon2)
    pub associated : length (context_of argon2).associated ≤ 32
    pub tag : output ≡ tag_of (context_of argon2) password salt (length output)
    pub matrix : let ctx = context_of argon2 in
        blocks_of ctx new ≡ matrix_of ctx password salt (length output)
    pub rest : KeepsRest (context_of argon2) old new
