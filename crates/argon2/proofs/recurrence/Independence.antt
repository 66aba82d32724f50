-- If addressing is independent, the place of a reference is a function of the algorithm, the three
-- costs and the block's place.
use Rattle.argon2.proofs.Imports.{◌≡◌, ℕ, zero, suc, ◌+◌, ◌*◌, ◌/◌, ◌%◌, ◌<◌, true, refl, sym, ◌∙◌, arith, nat_tests, div_below, Context, FirstColumns, address_block, address_word}
use Rattle.argon2.proofs.Imports.{finished_segments, is_independent, lane_length, permitted, reference, reference_lane, reference_of, reference_word, segment_length, HasSizes, reference_places}
use Rattle.argon2.proofs.Imports.{AreAlike}

-- the place of the block that the address word takes
addressed_place : Context → ℕ → ℕ → ℕ → ℕ
addressed_place ctx pass lane column =
    let from =
    reference ctx pass lane column (address_word ctx pass lane (column / segment_length ctx) (column % segment_length ctx)) in
    from.lane * lane_length ctx + from.column

-- if addressing is independent, that is the place of the reference
reference_place-addressed : (ctx : Context) (first : FirstColumns) (pass lane column : ℕ)
    → is_independent ctx pass (column / segment_length ctx) ≡ true
    → reference_places ctx first pass lane column ≡ addressed_place ctx pass lane column
unfolding reference_places reference_of reference_word addressed_place
reference_place-addressed ctx first pass lane column e =
    rw e refl

-- alike contexts have one place by the address word
addressed_place-alike : (a b : Context) → AreAlike a b → (pass lane column : ℕ)
    → addressed_place a pass lane column ≡ addressed_place b pass lane column
unfolding addressed_place reference reference_lane permitted finished_segments address_word address_block
addressed_place-alike a b h zero lane column = rw (h.algorithm, h.m_cost, h.t_cost, h.p_cost) refl
addressed_place-alike a b h (suc pass) lane column = rw (h.algorithm, h.m_cost, h.t_cost, h.p_cost) refl

-- if addressing is independent, alike contexts have alike reference places
pub positions_agree : (a b : Context) → AreAlike a b
    → (first second : FirstColumns) (pass lane column : ℕ)
    → is_independent a pass (column / segment_length a) ≡ true
    → reference_places a first pass lane column ≡ reference_places b second pass lane column
unfolding is_independent
positions_agree a b h first second pass lane column e =
    reference_place-addressed a first pass lane column e ∙ addressed_place-alike a b h pass lane column
    ∙ sym (reference_place-addressed b second pass lane column (rw (h.algorithm, h.m_cost, h.p_cost) at e))

-- Argon2i's addressing is independent everywhere
pub argon2i_independent : (ctx : Context) (pass slice : ℕ) → ctx.algorithm ≡ 1
    → is_independent ctx pass slice ≡ true
unfolding is_independent
argon2i_independent ctx pass slice h = grind (arith, nat_tests)

-- Argon2id's addressing is independent in the first half of pass 0
pub argon2id_independent : (ctx : Context) → HasSizes ctx → (column : ℕ) → ctx.algorithm ≡ 2
    → column < 2 * segment_length ctx
    → is_independent ctx 0 (column / segment_length ctx) ≡ true
unfolding is_independent
argon2id_independent ctx sizes column h low =
    let two = sizes.two_columns in
    let first = div_below column (segment_length ctx) 2 (omega arith) low in
    grind (arith, nat_tests)
