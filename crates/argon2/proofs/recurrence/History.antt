-- The blocks satisfy the recurrence, and no other blocks do.
use Rattle.argon2.proofs.Imports.{◌≡◌, ℕ, zero, suc, ◌+◌, ◌*◌, ◌/◌, ◌%◌, ◌<◌, ◌≤◌, inl, inr, List, [], map, length, refl, sym, ap, ◌∙◌, arith, slice_index_or, range_with_len}
use Rattle.argon2.proofs.Imports.{get_or_append_left, length_push, get_or_push, get_or-map-range_with_len, div-mul-add, mod-mul-add, cases_lt, nat_tests, Blocks, Context}
use Rattle.argon2.proofs.Imports.{FirstColumns, block_of, history, in_history, lane_length, made_block, rule, HasSizes, IsStep, IsRecurrence}
use Rattle.argon2.proofs.recurrence.Sources.{AgreeOn, made_cong}

-- the moment of a pass's column: how many columns are made before it
abbrev pub moment : Context → ℕ → ℕ → ℕ
moment ctx pass column = pass * lane_length ctx + column

-- a history of n columns has length n
length-history : (ctx : Context) (first : FirstColumns) (n : ℕ) → length (history ctx first n) ≡ n
unfolding history
length-history ctx first zero = refl
length-history ctx first (suc n) = length_push (history ctx first n) _ ∙ (let i = length-history ctx first n in omega arith)

-- more columns leave those before
history_stays : (ctx : Context) (first : FirstColumns) (n k : ℕ) → k < n
    → slice_index_or (history ctx first n) k [] ≡ slice_index_or (history ctx first (suc k)) k []
unfolding history
history_stays ctx first zero k h = absurd (omega arith)
history_stays ctx first (suc n) k h =
    elim (cases_lt k n) [
      | inl lt ↦ (let l = length-history ctx first n in
          get_or_append_left (history ctx first n) _ [] k (omega arith) ∙ history_stays ctx first n k lt)
      | inr le ↦ (let e : suc n ≡ suc k = omega arith in ap (λ m. slice_index_or (history ctx first m) k []) e)
    ]

-- a history has the block of each moment before its end
in_history_is : (ctx : Context) (first : FirstColumns) (n r l c : ℕ) → moment ctx r c < n
    → in_history ctx (history ctx first n) r l c ≡ block_of ctx first r l c
unfolding in_history block_of
in_history_is ctx first n r l c h =
    ap (λ (column : List (List ℕ)). slice_index_or column l []) (history_stays ctx first n (moment ctx r c) h)

module _ (ctx : Context) (sizes : HasSizes ctx) (first : FirstColumns) where
  -- a rule reads only earlier moments
  rule_cong : (pass lane column : ℕ) → lane < ctx.p_cost → column < lane_length ctx → (f g : Blocks)
      → ((r l c : ℕ) → l < ctx.p_cost → c < lane_length ctx → moment ctx r c < moment ctx pass column → f r l c ≡ g r l c)
      → rule ctx first f pass lane column ≡ rule ctx first g pass lane column
  unfolding rule
  rule_cong pass lane column in_lanes in_columns f g h =
      let agree : AgreeOn ctx pass lane column f g = λ r l c reads. h r l c reads.in_lanes reads.in_columns
      (let below = reads.in_columns in let newest = reads.newest in grind arith) in
      let made = λ (later : pass ≡ 0 → 2 ≤ column). made_cong ctx sizes pass lane column
      (record { in_lanes = in_lanes; in_columns = in_columns; later = later }) f g agree in
      grind (arith, nat_tests)

  -- each block is as the rule says
  pub recurrence : (pass lane column : ℕ) → lane < ctx.p_cost → column < lane_length ctx
      → block_of ctx first pass lane column ≡ rule ctx first (block_of ctx first) pass lane column
  unfolding block_of in_history history
  recurrence pass lane column in_lanes in_columns =
      let q = lane_length ctx in
      let n = moment ctx pass column in
      let before = in_history ctx (history ctx first n) in
      let made = λ (l : ℕ). rule ctx first before (n / q) l (n % q) in
      ap (λ (column : List (List ℕ)). slice_index_or column lane [])
      (get_or_push (history ctx first n) (map made (range_with_len 0 ctx.p_cost)) [] n (length-history ctx first n))
      ∙ get_or-map-range_with_len made 0 ctx.p_cost lane lane [] in_lanes (omega arith)
      ∙ rw (div-mul-add pass q column in_columns, mod-mul-add pass q column in_columns)
      (rule_cong pass lane column in_lanes in_columns before (block_of ctx first)
      (λ r l c _ _ lt. in_history_is ctx first n r l c lt))

  -- two recurrences agree up to any moment
  pub recurrence_unique_up_to : (f g : Blocks) → IsRecurrence ctx first f → IsRecurrence ctx first g → (n pass lane column : ℕ)
      → lane < ctx.p_cost → column < lane_length ctx → moment ctx pass column < n → f pass lane column ≡ g pass lane column
  recurrence_unique_up_to f g hf hg zero pass lane column a b lt = absurd (omega arith)
  recurrence_unique_up_to f g hf hg (suc n) pass lane column a b lt =
      hf pass lane column a b
      ∙ rule_cong pass lane column a b f g (λ r l c u v earlier. recurrence_unique_up_to f g hf hg n r l c u v (omega arith))
      ∙ sym (hg pass lane column a b)

  -- the blocks of columns 0 and 1 of pass 0 are the first columns
  pub first_columns : (lane column : ℕ) → lane < ctx.p_cost → column < 2 → block_of ctx first 0 lane column ≡ first lane column
  unfolding rule
  first_columns lane column a b =
      let two = sizes.two_columns in recurrence 0 lane column a (omega arith) ∙ grind (arith, nat_tests)

  -- all other blocks are made of others
  pub made_blocks : (pass lane column : ℕ) → IsStep ctx pass lane column
      → block_of ctx first pass lane column ≡ made_block ctx (block_of ctx first) pass lane column
  unfolding rule
  made_blocks pass lane column st =
      let later = st.later in recurrence pass lane column st.in_lanes st.in_columns ∙ grind (arith, nat_tests)
