-- Vectors of sixteen lanes, and P on groups of lanes of four of them.
use Rattle.argon2_base.proofs.Imports.{◌≡◌, ℕ, zero, suc, ◌<◌, ◌+◌, ◌%◌, List, [], ◌∷◌, ◌++◌, length, slice_index, map, arith, refl, ap, ◌∙◌, range_with_len, get_or-map, get_or_append_left}
use Rattle.argon2_base.proofs.Imports.{pick_l, gb, mix_columns, mix_diagonals, perm, exchanged_left, exchanged_right, row_in_fours, group, lane_word, vector_words}
use Rattle.argon2_base.proofs.block_lemmas.LaneLemmas.{row_at, word_at}

-- what is true of 0 to 3 is true of each number below 4
pub below_four : (P : ℕ → Type 0) → P 0 → P 1 → P 2 → P 3 → (k : ℕ) → k < 4 → P k
below_four P p0 p1 p2 p3 zero h = p0
below_four P p0 p1 p2 p3 (suc zero) h = p1
below_four P p0 p1 p2 p3 (suc (suc zero)) h = p2
below_four P p0 p1 p2 p3 (suc (suc (suc zero))) h = p3
below_four P p0 p1 p2 p3 (suc (suc (suc (suc n)))) h = absurd (omega arith)

-- lane m of a vector whose lanes change their places
pub moved_lane : (place : ℕ → ℕ) (x : List ℕ) → length x ≡ 16 → (m j : ℕ) → m < 16 → place m ≡ j → j < 16
    → slice_index (pick_l 0 (x ++ x) (map place (range_with_len 0 16))) m ≡ slice_index x j
moved_lane place x long m j below is within =
    get_or-map (slice_index (x ++ x)) (map place (range_with_len 0 16)) m 0 0 below
    ∙ ap (slice_index (x ++ x)) (word_at place m below ∙ is)
    ∙ get_or_append_left x x 0 j (omega arith)

-- GB in four lanes of four vectors
abbrev Mixes : (ℕ → ℕ) → List (List ℕ) → List (List ℕ) → Type 0
Mixes lane x y =
    (k : ℕ) → k < 4 → (lane_word y 0 (lane k), lane_word y 1 (lane k), lane_word y 2 (lane k), lane_word y 3 (lane k))
    ≡ gb (lane_word x 0 (lane k)) (lane_word x 1 (lane k)) (lane_word x 2 (lane k)) (lane_word x 3 (lane k))

-- four lanes of a vector turned by n
abbrev Turns : (ℕ → ℕ) → ℕ → List ℕ → List ℕ → Type 0
Turns lane n x y = (k : ℕ) → k < 4 → slice_index y (lane k) ≡ slice_index x (lane ((k + n) % 4))

-- P on a group: GB, then GB on the diagonals, which are turned into columns and back
pub group_permuted : (lane : ℕ → ℕ) (x : List (List ℕ)) (a b c d : List ℕ) (at ct dt e f g h : List ℕ) (ea gc hd : List ℕ)
    → Mixes lane x (a ∷ b ∷ c ∷ d ∷ []) → Turns lane 3 a at → Turns lane 1 c ct → Turns lane 2 d dt
    → Mixes lane (at ∷ b ∷ ct ∷ dt ∷ []) (e ∷ f ∷ g ∷ h ∷ [])
    → Turns lane 1 e ea → Turns lane 3 g gc → Turns lane 2 h hd
    → group lane (ea ∷ f ∷ gc ∷ hd ∷ []) ≡ perm (group lane x)
unfolding perm mix_columns mix_diagonals
group_permuted lane x a b c d at ct dt e f g h ea gc hd first to_a to_c to_d second from_a from_c from_d = grind arith

-- four vectors, after groups of four lanes and then halves have changed places
abbrev pub transposed : List (List ℕ) → List (List ℕ)
transposed x =
    let a0 = exchanged_left 16 4 (row_at x 0) (row_at x 1) in
    let a1 = exchanged_right 16 4 (row_at x 0) (row_at x 1) in
    let a2 = exchanged_left 16 4 (row_at x 2) (row_at x 3) in
    let a3 = exchanged_right 16 4 (row_at x 2) (row_at x 3) in
    exchanged_left 16 8 a0 a2 ∷ exchanged_left 16 8 a1 a3 ∷ exchanged_right 16 8 a0 a2 ∷ exchanged_right 16 8 a1 a3 ∷ []

pub fours_of_transposed : (x : List (List ℕ)) (i : ℕ) → i < 4 → row_in_fours i (transposed x) ≡ vector_words i x
fours_of_transposed x = below_four _ refl refl refl refl

pub vectors_of_transposed : (x : List (List ℕ)) (i : ℕ) → i < 4 → vector_words i (transposed x) ≡ row_in_fours i x
vectors_of_transposed x = below_four _ refl refl refl refl
