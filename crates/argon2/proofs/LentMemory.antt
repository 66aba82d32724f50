-- Lent memory after its first blocks were written.
use Rattle.argon2.proofs.Imports.{◌≡◌, ℕ, ◌+◌, ◌*◌, ◌++◌, ◌≤◌, List, [], length, map, take, drop, sym, ap, subst, ◌∙◌, arith, drop-map, get_or_append_left, get_or-take, length-take-le}
use Rattle.argon2.proofs.Imports.{map-append, length-map-range_with_len, mul-add-lt, Argon2, context_of, Context, FirstColumns, IsValid, block_count, first_block, lane_length, Memory}
use Rattle.argon2.proofs.Imports.{matrix, matrix_of, blocks_of, KeepsOtherColumns, KeepsRest, IsBegun, Begins, BeginsLanes}
use Rattle.std.proofs.lemmas.Slice.{drop-append-drop}
use Rattle.std.proofs.Math.Seq.{take-append_seam}

-- the matrix has as many blocks as are filled
length-matrix_of : (ctx : Context) (password salt : List ℕ) (n : ℕ)
    → length (matrix_of ctx password salt n) ≡ block_count ctx
unfolding matrix_of matrix
length-matrix_of ctx password salt n = length-map-range_with_len _ 0 (block_count ctx)

module _ (ctx : Context) (count : ℕ) (all : count ≡ block_count ctx) (old blocks : Memory) where
  -- the blocks that are filled come first
  blocks_of-front : length blocks ≡ block_count ctx → blocks_of ctx (blocks ++ drop count old) ≡ blocks
  blocks_of-front size = ap (λ n. take n (blocks ++ drop count old)) (sym size) ∙ take-append_seam blocks (drop count old)

  -- the blocks after them stay
  KeepsRest-behind : length blocks ≡ block_count ctx → KeepsRest ctx old (blocks ++ drop count old)
  KeepsRest-behind size = drop-append-drop count old blocks (block_count ctx) (omega (arith, all)) (size ∙ sym all)

  -- all columns but the first two stay
  KeepsOtherColumns-front : length blocks ≡ block_count ctx → KeepsOtherColumns ctx (take count old) blocks
      → KeepsOtherColumns ctx old (blocks ++ drop count old)
  KeepsOtherColumns-front size same lane column l low high =
      let below = mul-add-lt lane (lane_length ctx) column ctx.p_cost l high in
      let front = get_or_append_left blocks (drop count old) [] (lane * lane_length ctx + column) in
      grind (arith, same lane column l low high, get_or-take count old (lane * lane_length ctx + column) [])

  -- if the first blocks are the matrix, it is in the memory, and the rest is as before
  pub has_matrix : (password salt : List ℕ) (n : ℕ) → blocks ≡ matrix_of ctx password salt n
      → (blocks_of ctx (blocks ++ drop count old) ≡ matrix_of ctx password salt n)
      × KeepsRest ctx old (blocks ++ drop count old)
  has_matrix password salt n filled =
      let size : length blocks ≡ block_count ctx = ap length filled ∙ length-matrix_of ctx password salt n in
      (blocks_of-front size ∙ filled, KeepsRest-behind size)

-- the words of lent blocks whose first were written
pub words_behind : {B : Type 0} (words : B → List ℕ) (front old : List B) (count : ℕ)
    → map words (front ++ drop count old) ≡ map words front ++ drop count (map words old)
words_behind words front old count =
    map-append words front (drop count old) ∙ ap (λ (rest : Memory). map words front ++ rest) (sym (drop-map words count old))

-- lanes with all their columns are a memory that begins
pub lanes_begin : (ctx : Context) (width : ℕ) → width ≡ lane_length ctx → (first : FirstColumns) (old new : Memory)
    → length old ≡ block_count ctx → BeginsLanes ctx width first old new → Begins ctx first new
lanes_begin ctx width wide first old new size begun =
    record { size = begun.size ∙ size; columns = rw wide at begun.columns }

-- a fill that begins in the first blocks begins in the memory
pub is_begun : (argon2 : Argon2) (count width : ℕ) → count ≡ block_count (context_of argon2)
    → width ≡ lane_length (context_of argon2) → (old blocks : Memory) → count ≤ length old
    → IsValid (context_of argon2) → length (context_of argon2).associated ≤ 32 → (password salt : List ℕ) (n : ℕ)
    → BeginsLanes (context_of argon2) width (first_block (context_of argon2) password salt n) (take count old) blocks
    → IsBegun argon2 password salt n old (blocks ++ drop count old)
is_begun argon2 count width all wide old blocks room valid short password salt n begun =
    let ctx = context_of argon2 in
    let first = first_block ctx password salt n in
    let begins = lanes_begin ctx width wide first (take count old) blocks (length-take-le count old room ∙ all) begun in
    let same : KeepsOtherColumns ctx (take count old) blocks = rw wide at begun.others in
    record {
      valid = valid;
      associated = short;
      begins = subst (Begins ctx (first_block ctx password salt n))
          (sym (blocks_of-front ctx count all old blocks begins.size)) begins;
      others = KeepsOtherColumns-front ctx count all old blocks begins.size same;
      rest = KeepsRest-behind ctx count all old blocks begins.size;
    }
