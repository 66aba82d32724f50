-- From the vectors of the kernel to the mixing that the standard defines.
use Rattle.argon2_base.proofs.Imports.{same_number_lists, ◌≡◌, ℕ, Bool, false, ◌<◌, ◌≤◌, ◌+◌, ◌-◌, ◌*◌, ◌/◌, ◌%◌, List, [], inl, inr, length, map, slice_index, slice_index_or, ◌==◌}
use Rattle.argon2_base.proofs.Imports.{if◌then◌else◌, arith, refl, sym, ap, ap₂, ◌∙◌, zero-add, cases_lt, get_or-map-range_with_len, length-map-range_with_len, length-zip2, range_with_len}
use Rattle.argon2_base.proofs.Imports.{by_columns, by_rows, column, perm, row, xor_blocks, column_lanes, half_word, lane, lane_word, column_in_pairs, vector_words, written}
use Rattle.std.proofs.Common.{bit_xor}
use Rattle.argon2_base.proofs.block_lemmas.LaneLemmas.{zip2_at, word_at, words_are}

-- lane q of the vector of an even or an odd number, of two neighbours
abbrev one_of : List (List ℕ) → ℕ → ℕ → ℕ → ℕ
one_of x i e q = slice_index (if e == 0 then slice_index_or x (2 * i) [] else slice_index_or x (2 * i + 1) []) q

-- word w of the columns, xored with the word of r
abbrev Stored : List (List ℕ) → List ℕ → List ℕ → ℕ → Type 0
Stored x r out w = slice_index out w ≡ bit_xor (lane_word x (2 * (w / 16) + w % 2) (w % 16 / 2)) (slice_index r w)

-- a word that is stored at its place
word_stored : (x : List (List ℕ)) (r out : List ℕ) (i w place e q : ℕ)
    → slice_index out place ≡ bit_xor (one_of x i e q) (slice_index r place) → e < 2 → place ≡ w
    → 2 * i + e ≡ 2 * (w / 16) + w % 2 → q ≡ w % 16 / 2 → Stored x r out w
word_stored x r out i w place e q stored below here vector lane_of = grind arith

-- the words of a row that is stored by halves
pub row_stored : (x : List (List ℕ)) (r out : List ℕ) (i : ℕ)
    → ((k : ℕ) → k < 8 → slice_index out (16 * i + k)
    ≡ bit_xor (one_of x i (k % 2) (k / 2)) (slice_index r (16 * i + k)))
    → ((k : ℕ) → k < 8 → slice_index out (16 * i + 8 + k)
    ≡ bit_xor (one_of x i (k % 2) (4 + k / 2)) (slice_index r (16 * i + 8 + k)))
    → (w : ℕ) → 16 * i ≤ w → w < 16 * (i + 1) → Stored x r out w
row_stored x r out i left right w low high =
    elim (cases_lt w (16 * i + 8)) [
      | inl in_left ↦
          let k = w - 16 * i in
          word_stored x r out i w (16 * i + k) (k % 2) (k / 2) (left k (omega arith))
          (omega arith) (omega arith) (omega arith) (omega arith)
      | inr in_right ↦
          let k = w - (16 * i + 8) in
          word_stored x r out i w (16 * i + 8 + k) (k % 2) (4 + k / 2) (right k (omega arith))
          (omega arith) (omega arith) (omega arith) (omega arith)
    ]

-- words that P made of each row stand in the rows that P mixed
in_rows : (r : List ℕ) (word : ℕ → ℕ → ℕ) → ((i : ℕ) → i < 8 → map (word i) (range_with_len 0 16) ≡ perm (row i r))
    → (i k : ℕ) → i < 8 → k < 16 → word i k ≡ slice_index (by_rows r) (16 * i + k)
unfolding by_rows
in_rows r word are i k hi hk =
    sym (word_at (word i) k hk) ∙ ap (λ l. slice_index l k) (are i hi)
    ∙ ap₂ (λ a b. slice_index (perm (row a r)) b) (omega arith) (omega arith)
    ∙ sym (get_or-map-range_with_len (λ w. slice_index (perm (row (w / 16) r)) (w % 16)) 0 128
    (16 * i + k) _ 0 (omega arith) refl)

-- a word of the columns that P mixed
pub by_columns_word : (q : List ℕ) (w : ℕ) → w < 128
    → slice_index (by_columns q) w ≡ slice_index (perm (column (w % 16 / 2) q)) (2 * (w / 16) + w % 2)
unfolding by_columns
by_columns_word q w h =
    get_or-map-range_with_len (λ w. slice_index (perm (column (w % 16 / 2) q)) (2 * (w / 16) + w % 2)) 0 128 w w 0 h (zero-add w)

-- the columns are a block again
pub length-by_columns : (q : List ℕ) → length (by_columns q) ≡ 128
unfolding by_columns
length-by_columns q = length-map-range_with_len (λ w. slice_index (perm (column (w % 16 / 2) q)) (2 * (w / 16) + w % 2)) 0 128

-- a word of the columns of the rows
abbrev pub mixed_word : List ℕ → ℕ → ℕ
mixed_word r w = slice_index (perm (column (w % 16 / 2) (by_rows r))) (2 * (w / 16) + w % 2)

-- a word of the exclusive or of two blocks
pub xor_word : (x y : List ℕ) (w : ℕ) → w < length x → w < length y
    → slice_index (xor_blocks x y) w ≡ bit_xor (slice_index x w) (slice_index y w)
unfolding xor_blocks
xor_word x y w in_x in_y = zip2_at bit_xor x y w in_x in_y

-- the exclusive or of two blocks is a block
pub length-xor_blocks : (x y : List ℕ) → length x ≡ length y → length (xor_blocks x y) ≡ length x
unfolding xor_blocks
length-xor_blocks x y same = length-zip2 bit_xor x y same

-- blocks are equal if their words are
pub ruleset block_steps = (same_number_lists, xor_word, length-xor_blocks, by_columns_word, length-by_columns)

-- if the words of the columns of the rows, each xored with the word of r, are written over a block, so is G, or its
-- exclusive or with the block
pub mixed_written : (xors : Bool) (r old out : List ℕ) → length r ≡ 128 → length old ≡ 128 → length out ≡ 128
    → ((w : ℕ) → w < 128
    → slice_index out w ≡ written xors (slice_index old w) (bit_xor (mixed_word r w) (slice_index r w)))
    → out ≡ (if xors then xor_blocks old (xor_blocks (by_columns (by_rows r)) r) else xor_blocks (by_columns (by_rows r)) r)
mixed_written xors r old out long_r long_old long_out stored = grind (arith, block_steps)

-- the vectors of the rows, mixed, turned, mixed and stored, are G
pub kernel_mixes : (r out : List ℕ) (rows across cols down : List (List ℕ)) → length r ≡ 128 → length out ≡ 128
    → ((i : ℕ) → i < 8 → lane i rows ≡ row i r)
    → ((i : ℕ) → i < 8 → lane i across ≡ perm (lane i rows))
    → ((i j e : ℕ) → i < 8 → j < 8 → e < 2 → lane_word cols (2 * i + e) j ≡ lane_word across (2 * j + e) i)
    → ((j : ℕ) → j < 8 → lane j down ≡ perm (lane j cols))
    → ((w : ℕ) → w < 128 → Stored down r out w)
    → out ≡ xor_blocks (by_columns (by_rows r)) r
unfolding column
kernel_mixes r out rows across cols down long_r long_out rows_are across_are cols_are down_are stored =
    let q = by_rows r in
    let across_word = in_rows r (λ i k. lane_word across k i) (λ i hi. across_are i hi ∙ ap perm (rows_are i hi)) in
    let column_is : (j : ℕ) → j < 8 → lane j cols ≡ column j q =
    λ j hj. words_are (λ k. lane_word cols k j) (λ k. slice_index q (16 * (k / 2) + 2 * j + k % 2)) (λ k hk.
    ap (λ n. lane_word cols n j) (omega arith)
    ∙ cols_are (k / 2) j (k % 2) (omega arith) hj (omega arith)
    ∙ across_word (k / 2) (2 * j + k % 2) (omega arith) (omega arith)
    ∙ ap (slice_index q) (omega arith))
    in
    let down_word : (j k : ℕ) → j < 8 → k < 16 → lane_word down k j ≡ slice_index (perm (column j q)) k =
    λ j k hj hk.
    sym (word_at (λ k. lane_word down k j) k hk)
    ∙ ap (λ l. slice_index l k) (down_are j hj ∙ ap perm (column_is j hj))
    in
    mixed_written false r r out long_r long_r long_out (λ w h.
    stored w h ∙ ap (λ a. bit_xor a (slice_index r w))
    (down_word (w % 16 / 2) (2 * (w / 16) + w % 2) (omega arith) (omega arith)))

-- the rows and then the columns of a half of eight vectors, mixed
pub half_mixed : (r : List ℕ) (x across v : List (List ℕ)) (h : ℕ)
    → ((i : ℕ) → i < 8 → (k : ℕ) → k < 16 → lane_word x i k ≡ slice_index r (16 * i + k))
    → ((i : ℕ) → i < 8 → vector_words i across ≡ perm (vector_words i x))
    → ((j : ℕ) → j < 4 → column_in_pairs j v ≡ perm (column_lanes (4 * h + j) across))
    → (w : ℕ) → w < 128 → w % 16 / 8 ≡ h → half_word v w ≡ mixed_word r w
unfolding column row
half_mixed r x across v h x_is across_are v_are w below half =
    let q = by_rows r in
    let j = w % 8 / 2 in
    let k = 2 * (w / 16) + w % 2 in
    let across_word = in_rows r (lane_word across) (λ i hi. across_are i hi
    ∙ ap perm (words_are (lane_word x i) (λ k. slice_index r (16 * i + k)) (x_is i hi))) in
    let column_is : (j : ℕ) → j < 8 → column_lanes j across ≡ column j q =
    λ j hj. words_are (λ k. lane_word across (k / 2) (2 * j + k % 2)) (λ k. slice_index q (16 * (k / 2) + 2 * j + k % 2)) (λ k hk.
    across_word (k / 2) (2 * j + k % 2) (omega arith) (omega arith) ∙ ap (slice_index q) (omega arith))
    in
    ap₂ (lane_word v) (omega arith) (omega arith)
    ∙ sym (word_at (λ k. lane_word v (k / 4) (8 * (k % 4 / 2) + 2 * j + k % 4 % 2)) k (omega arith))
    ∙ ap (λ l. slice_index l k) (v_are j (omega arith) ∙ ap perm (column_is (4 * h + j) (omega arith)))
    ∙ ap (λ j. slice_index (perm (column j q)) k) (omega arith)
