-- The recurrence at small costs, against values of another implementation. There are two or three
-- columns a segment, one or two lanes, one or two passes, each algorithm and both versions; an address
-- block that is the second of its segment; an exclusive or over two lanes. A definition that errs in
-- one of these does not check.
use Rattle.std.proofs.Common.{◌≡◌, ℕ, ◌+◌, ◌-◌, ◌*◌, ◌/◌, ◌%◌, ◌^◌, List, [], ◌∷◌, ◌++◌, fold, slice_index_or, map, take, refl}
use Rattle.std.specs.List.{range_with_len}
use Rattle.argon2_base.specs.Block.{zero_block, xor_blocks}
use Rattle.argon2.specs.Rfc9106.{Context, FirstColumns, address_word, block_count, history, in_history, lane_length, reference_of, segment_length_for, xor_lanes}
use Rattle.argon2.specs.Layout.{place_of}
use Rattle.argon2.specs.WatchedFilling.{independent_segments, mixing_calls}
use Rattle.argon2_test_values.proofs.Computing.{addresses, recurrence, last_blocks}

-- first columns of words that are multiples of one number
first : FirstColumns
first lane column = map (λ k. 0x9e3779b97f4a7c15 * (128 * (2 * lane + column) + k + 1) % 2 ^ 64) (range_with_len 0 128)

-- two words of the last column's exclusive or
last_words : Context → List (List (List ℕ)) → List ℕ
last_words ctx h = take 2 (fold xor_blocks zero_block (slice_index_or h (ctx.t_cost * lane_length ctx - 1) []))

-- the place of the reference of each block of pass 1
places : Context → List (List (List ℕ)) → List ℕ
places ctx h =
    let q = lane_length ctx in
    map (λ n. place_of ctx (reference_of ctx (in_history ctx h) 1 (n / q) (n % q))) (range_with_len 0 (block_count ctx))

-- two lanes and two passes
ctx_argon2d : Context
ctx_argon2d = record { algorithm = 0; version = 19; m_cost = 16; t_cost = 2; p_cost = 2; secret = []; associated = [] }

argon2d_value : (let h = history ctx_argon2d first 16 in last_words ctx_argon2d h ++ places ctx_argon2d h)
    ≡ 10718237531185049381 ∷ 7985400641692774939
    ∷ 13 ∷ 13 ∷ 0 ∷ 1 ∷ 2 ∷ 15 ∷ 9 ∷ 13 ∷ 3 ∷ 12 ∷ 6 ∷ 1 ∷ 8 ∷ 3 ∷ 12 ∷ 12 ∷ []
unfolding recurrence first last_words places ctx_argon2d
argon2d_value = refl

-- one lane and two passes, the first overwritten
ctx_argon2i : Context
ctx_argon2i = record { algorithm = 1; version = 16; m_cost = 8; t_cost = 2; p_cost = 1; secret = []; associated = [] }

argon2i_value : last_words ctx_argon2i (history ctx_argon2i first 16) ≡ 16414865654818697123 ∷ 3293329966495352252 ∷ []
unfolding recurrence first last_words ctx_argon2i
argon2i_value = refl

-- one lane and two passes
ctx_argon2id : Context
ctx_argon2id = record { algorithm = 2; version = 19; m_cost = 8; t_cost = 2; p_cost = 1; secret = []; associated = [] }

argon2id_value : (let h = history ctx_argon2id first 16 in last_words ctx_argon2id h ++ places ctx_argon2id h)
    ≡ 13564120000123350929 ∷ 17152559826884169098
    ∷ 6 ∷ 7 ∷ 0 ∷ 1 ∷ 2 ∷ 6 ∷ 4 ∷ 5 ∷ []
unfolding recurrence first last_words places ctx_argon2id
argon2id_value = refl

-- three columns a segment and two lanes
ctx_three_columns : Context
ctx_three_columns = record { algorithm = 2; version = 19; m_cost = 24; t_cost = 1; p_cost = 2; secret = []; associated = [] }

three_columns_value : last_words ctx_three_columns (history ctx_three_columns first 12)
    ≡ 12191841907471625132 ∷ 9955704013308080359 ∷ []
unfolding recurrence first last_words ctx_three_columns
three_columns_value = refl

lanes_value : take 2 (xor_lanes ctx_three_columns (λ lane. first lane 0)) ≡ 5442119120697748736 ∷ 5730372582314996992 ∷ []
unfolding last_blocks first ctx_three_columns
lanes_value = refl

-- 130 columns a segment, whose addresses are the words of two blocks
ctx_long_segment : Context
ctx_long_segment = record { algorithm = 1; version = 19; m_cost = 1040; t_cost = 1; p_cost = 2; secret = []; associated = [] }

address_value : address_word ctx_long_segment 0 1 2 129 ≡ 1154725382045286597
unfolding addresses ctx_long_segment
address_value = refl

-- ---- how often two blocks are mixed

-- the mixing calls of an algorithm and three costs
calls : ℕ → ℕ → ℕ → ℕ → ℕ
calls algorithm m t p =
    mixing_calls (record {
      algorithm = algorithm;
      version = 19;
      m_cost = m;
      t_cost = t;
      p_cost = p;
      secret = [];
      associated = [];
    })

-- the mixing calls of Argon2d, Argon2id and Argon2i
calls_values : (calls 0 32 3 4 ∷ calls 2 32 3 4 ∷ calls 1 32 3 4
    ∷ calls 0 8 1 1 ∷ calls 2 8 1 1 ∷ calls 1 8 1 1
    ∷ calls 0 33 1 2 ∷ calls 2 33 1 2 ∷ calls 1 33 1 2
    ∷ calls 0 512 1 1 ∷ calls 2 512 1 1 ∷ calls 1 512 1 1
    ∷ calls 0 516 1 1 ∷ calls 2 516 1 1 ∷ calls 1 516 1 1
    ∷ calls 0 19456 2 1 ∷ calls 2 19456 2 1 ∷ calls 1 19456 2 1 ∷ [])
    ≡ 88 ∷ 104 ∷ 184 ∷ 6 ∷ 10 ∷ 14 ∷ 28 ∷ 36 ∷ 44 ∷ 510 ∷ 514 ∷ 518 ∷ 514 ∷ 522 ∷ 530 ∷ 38910 ∷ 39062 ∷ 39518 ∷ []
unfolding calls mixing_calls independent_segments segment_length_for
calls_values = refl
