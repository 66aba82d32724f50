-- Vectors of eight lanes, and what the steps of the mixing do in each lane.
use Rattle.argon2_base.proofs.Imports.{◌≡◌, ℕ, zero, suc, ◌<◌, ◌+◌, ◌*◌, ◌/◌, ◌%◌, List, [], ◌∷◌, length, slice_index, slice_index_or, map, arith, refl, ap, ◌∙◌, lit<, sym, ap₂}
use Rattle.argon2_base.proofs.Imports.{range_with_len, ext_get_or, get_or-replicate, length-replicate, get_or-zip2, length-zip2, get_or-map-range_with_len, length-map-range_with_len, zip2}
use Rattle.argon2_base.proofs.Imports.{row, lane, lane_word, words_in_eights}
use Rattle.std.proofs.lemmas.Grind.{and_numeral}
use Rattle.std.proofs.lemmas.List.{get_or_append_left, get_or-append_right}
use Rattle.std.proofs.lemmas.Simd.{get_or-put_chunk_above, get_or-put_chunk_at, get_or-put_chunk_below}

-- a word of two vectors that are put together
pub zip2_at : (f : ℕ → ℕ → ℕ) (a b : List ℕ) (j : ℕ) → j < length a → j < length b
    → slice_index (zip2 f a b) j ≡ f (slice_index a j) (slice_index b j)
zip2_at f a b j in_a in_b = get_or-zip2 f a b j 0 0 0 in_a in_b

-- the words of a list into which a vector is written
pub ruleset lane_writes = (get_or-put_chunk_above, get_or-put_chunk_at, get_or-put_chunk_below)

-- the words of vectors that are put side by side, put together or written
pub ruleset lane_steps = (
  zip2_at,
  length-zip2,
  get_or_append_left,
  get_or-append_right,
  get_or-replicate,
  length-replicate,
  and_numeral,
  lane_writes,
)

-- what is true of each of eight lanes
pub below_eight : (P : ℕ → Type 0) → P 0 → P 1 → P 2 → P 3 → P 4 → P 5 → P 6 → P 7 → (j : ℕ) → j < 8 → P j
below_eight P p0 p1 p2 p3 p4 p5 p6 p7 j h = grind arith

-- what is true of each of sixteen words
pub below_sixteen : (P : ℕ → Type 0) → P 0 → P 1 → P 2 → P 3 → P 4 → P 5 → P 6 → P 7
    → P 8 → P 9 → P 10 → P 11 → P 12 → P 13 → P 14 → P 15 → (k : ℕ) → k < 16 → P k
below_sixteen P a0 a1 a2 a3 a4 a5 a6 a7 b0 b1 b2 b3 b4 b5 b6 b7 k h = grind arith

-- a word of sixteen
pub word_at : (f : ℕ → ℕ) (k : ℕ) → k < 16 → slice_index (map f (range_with_len 0 16)) k ≡ f k
word_at f k h = get_or-map-range_with_len f 0 16 k k 0 h (omega arith)

-- sixteen words, given by number
pub words_are : (f g : ℕ → ℕ) → ((k : ℕ) → k < 16 → f k ≡ g k) → map f (range_with_len 0 16) ≡ map g (range_with_len 0 16)
words_are f g h = grind arith

-- the vector of a number
abbrev pub row_at : List (List ℕ) → ℕ → List ℕ
row_at x i = slice_index_or x i []

-- vectors of y and of z in turn
abbrev column_vectors : List (List ℕ) → List (List ℕ) → List (List ℕ)
column_vectors y z =
    row_at y 0 ∷ row_at z 0 ∷ row_at y 1 ∷ row_at z 1 ∷ row_at y 2 ∷ row_at z 2 ∷ row_at y 3 ∷ row_at z 3
    ∷ row_at y 4 ∷ row_at z 4 ∷ row_at y 5 ∷ row_at z 5 ∷ row_at y 6 ∷ row_at z 6 ∷ row_at y 7 ∷ row_at z 7 ∷ []

-- the vectors of even or of odd numbers
abbrev every_second : List (List ℕ) → ℕ → List (List ℕ)
every_second x e =
    row_at x (0 + e) ∷ row_at x (2 + e) ∷ row_at x (4 + e) ∷ row_at x (6 + e)
    ∷ row_at x (8 + e) ∷ row_at x (10 + e) ∷ row_at x (12 + e) ∷ row_at x (14 + e) ∷ []

-- sixteen vectors turned by two transpositions, of the vectors of even and of odd numbers
pub columns_from : (x y z : List (List ℕ))
    → ((i k : ℕ) → i < 8 → k < 8 → lane_word y i k ≡ lane_word (every_second x 0) k i)
    → ((i k : ℕ) → i < 8 → k < 8 → lane_word z i k ≡ lane_word (every_second x 1) k i)
    → (i j e : ℕ) → i < 8 → j < 8 → e < 2 → lane_word (column_vectors y z) (2 * i + e) j ≡ lane_word x (2 * j + e) i
columns_from x y z even odd i j zero hi hj he =
    below_eight (λ i. lane_word (column_vectors y z) (2 * i + 0) j ≡ lane_word y i j) refl refl refl refl refl refl refl refl i hi
    ∙ even i j hi hj
    ∙ below_eight (λ j. lane_word (every_second x 0) j i ≡ lane_word x (2 * j + 0) i) refl refl refl refl refl refl refl refl j hj
columns_from x y z even odd i j (suc zero) hi hj he =
    below_eight (λ i. lane_word (column_vectors y z) (2 * i + 1) j ≡ lane_word z i j) refl refl refl refl refl refl refl refl i hi
    ∙ odd i j hi hj
    ∙ below_eight (λ j. lane_word (every_second x 1) j i ≡ lane_word x (2 * j + 1) i) refl refl refl refl refl refl refl refl j hj
columns_from x y z even odd i j (suc (suc e)) hi hj he = absurd (omega arith)

-- a word of the vectors read one after the other
pub word_in_eights : (x : List (List ℕ)) (k j w : ℕ) → k < 16 → j < 8 → 8 * k + j ≡ w
    → slice_index (words_in_eights x) w ≡ lane_word x k j
unfolding words_in_eights
word_in_eights x k j w hk hj place =
    get_or-map-range_with_len (λ w. lane_word x (w / 8) (w % 8)) 0 128 w w 0 (omega arith) (omega arith)
    ∙ ap₂ (lane_word x) (omega arith) (omega arith)

-- such vectors hold the words of a list, if each holds its eight
pub in_eights : (x : List (List ℕ)) (words : List ℕ) → length words ≡ 128
    → ((k : ℕ) → k < 16 → (j : ℕ) → j < 8 → lane_word x k j ≡ slice_index words (8 * k + j))
    → words_in_eights x ≡ words
unfolding words_in_eights
in_eights x words long same =
    let long_x = length-map-range_with_len (λ w. lane_word x (w / 8) (w % 8)) 0 128 in
    ext_get_or 0 (words_in_eights x) words (long_x ∙ sym long) (λ w h.
    word_in_eights x (w / 8) (w % 8) w (omega arith) (omega arith) (omega arith)
    ∙ same (w / 8) (omega arith) (w % 8) (omega arith) ∙ ap (slice_index words) (omega arith))

-- the left and the right halves of the rows are vectors of even and of odd numbers
pub half_row : (x : List (List ℕ)) (i k e : ℕ) → i < 8 → k < 8 → e < 2
    → lane_word (every_second x e) i k ≡ slice_index (words_in_eights x) (16 * i + (8 * e + k))
half_row x i k e hi hk he =
    below_eight (λ i. lane_word (every_second x e) i k ≡ lane_word x (2 * i + e) k) refl refl refl refl refl refl refl refl i hi
    ∙ sym (word_in_eights x (2 * i + e) k (16 * i + (8 * e + k)) (omega arith) hk (omega arith))

-- the vectors of y, and then the vectors of z
abbrev one_after_the_other : List (List ℕ) → List (List ℕ) → List (List ℕ)
one_after_the_other y z =
    row_at y 0 ∷ row_at y 1 ∷ row_at y 2 ∷ row_at y 3 ∷ row_at y 4 ∷ row_at y 5 ∷ row_at y 6 ∷ row_at y 7
    ∷ row_at z 0 ∷ row_at z 1 ∷ row_at z 2 ∷ row_at z 3 ∷ row_at z 4 ∷ row_at z 5 ∷ row_at z 6 ∷ row_at z 7 ∷ []

-- sixteen vectors of two transpositions, of the left and of the right halves of the rows
pub rows_from : (y z : List (List ℕ)) (words : List ℕ) (i : ℕ)
    → ((k : ℕ) → k < 8 → lane_word y k i ≡ slice_index words (16 * i + (0 + k)))
    → ((k : ℕ) → k < 8 → lane_word z k i ≡ slice_index words (16 * i + (8 + k)))
    → lane i (one_after_the_other y z) ≡ row i words
unfolding row
rows_from y z words i left right =
    words_are (λ k. lane_word (one_after_the_other y z) k i) (λ k. slice_index words (16 * i + k)) (below_sixteen _
    (left 0 (lit< tt)) (left 1 (lit< tt)) (left 2 (lit< tt)) (left 3 (lit< tt)) (left 4 (lit< tt)) (left 5 (lit< tt))
    (left 6 (lit< tt)) (left 7 (lit< tt)) (right 0 (lit< tt)) (right 1 (lit< tt)) (right 2 (lit< tt))
    (right 3 (lit< tt)) (right 4 (lit< tt)) (right 5 (lit< tt)) (right 6 (lit< tt)) (right 7 (lit< tt)))
