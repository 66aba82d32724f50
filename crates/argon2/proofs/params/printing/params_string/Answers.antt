use Rattle.argon2.proofs.Imports.{ℕ, ◌≤◌, Fits, ◌++◌, ◌≡◌, ◌∷◌, [], List, None, arith, codes, length, append-nil, refl, slice_index, true, w8, Pair, are_params, bytes_item, parameter_items}
use Rattle.argon2.proofs.Imports.{w32}
use Rattle.argon2_base.proofs.phc_lemmas.ParamsReading.{params_front}
use Rattle.argon2.proofs.params_lemmas.ListedLemmas.{cost_item, listed_good}
use Rattle.argon2.proofs.params_lemmas.ReadAgain.{read_again, valid_without}
use Rattle.argon2.proofs.params.printing.params_string.Goals as goal

-- the fronts of the list are in the grammar, by what the arguments' types say
front : {m t p : ℕ} (k d : List ℕ) (a b : List Pair) → a ++ b ≡ parameter_items m t p k d
    → Fits w32 m → Fits w32 t → Fits w32 p → ((i : ℕ) → Fits w8 (slice_index k i))
    → ((i : ℕ) → Fits w8 (slice_index d i)) → length k ≤ 8 → length d ≤ 32 → are_params a ≡ true
front {m} {t} {p} k d a b is hm ht hp bk bd lk ld =
    let good = listed_good m t p k d (omega (arith, hm)) (omega (arith, ht)) (omega (arith, hp))
    (λ i. omega (arith, bk i)) (λ i. omega (arith, bd i)) lk ld in
    params_front a b (rw is good)

pub unreachable-requires : goal.unreachable-requires
unreachable-requires c =
    let one = front c.args.keyid.now c.args.associated.now (cost_item (codes "m") c.args.m ∷ []) _ refl c.ranges.m
    c.ranges.t c.ranges.p c.type_inv.keyid c.type_inv.associated c.requires.keyid_fits c.requires.associated_fits in
    let refused = rw (c.new-list.ensures) at c.in_default.ensures.when in
    cc

pub unreachable-requires-in_default-add_decimal : goal.unreachable-requires-in_default-add_decimal
unreachable-requires-in_default-add_decimal c =
    let two = front c.args.keyid.now c.args.associated.now
    (cost_item (codes "m") c.args.m ∷ cost_item (codes "t") c.args.t ∷ []) _ refl c.ranges.m c.ranges.t c.ranges.p
    c.type_inv.keyid c.type_inv.associated c.requires.keyid_fits c.requires.associated_fits in
    let refused = rw (c.in-Ok.ensures.ok, c.new-list.ensures) at c.in_default-add_decimal.ensures.when in
    cc

pub unreachable-requires-in_default-add_decimal-2 : goal.unreachable-requires-in_default-add_decimal-2
unreachable-requires-in_default-add_decimal-2 c =
    let three = front c.args.keyid.now c.args.associated.now
    (cost_item (codes "m") c.args.m ∷ cost_item (codes "t") c.args.t ∷ cost_item (codes "p") c.args.p ∷ []) _ refl
    c.ranges.m c.ranges.t c.ranges.p c.type_inv.keyid c.type_inv.associated c.requires.keyid_fits
    c.requires.associated_fits in
    let refused = rw (c.in-Ok-add_decimal.ensures.ok, c.in-Ok.ensures.ok, c.new-list.ensures)
    at c.in_default-add_decimal-2.ensures.when in
    cc

pub add_bytes-requires : goal.add_bytes-requires
add_bytes-requires c =
    let costs = rw (c.in-Ok-add_decimal.ensures.ok, c.in-Ok.ensures.ok, c.new-list.ensures)
    at c.in-Ok-add_decimal-2.ensures.ok in
    rw costs (front c.args.keyid.now c.args.associated.now
    (cost_item (codes "m") c.args.m ∷ cost_item (codes "t") c.args.t ∷ cost_item (codes "p") c.args.p
    ∷ bytes_item (codes "keyid") c.args.keyid.now) _ refl
    c.ranges.m c.ranges.t c.ranges.p c.type_inv.keyid c.type_inv.associated c.requires.keyid_fits c.requires.associated_fits)

pub add_bytes-requires-2 : goal.add_bytes-requires-2
add_bytes-requires-2 c =
    let costs = rw (c.in-Ok-add_decimal.ensures.ok, c.in-Ok.ensures.ok, c.new-list.ensures)
    at c.in-Ok-add_decimal-2.ensures.ok in
    rw (c.add_bytes.ensures, costs) (front c.args.keyid.now c.args.associated.now
    (parameter_items c.args.m c.args.t c.args.p c.args.keyid.now c.args.associated.now) [] (append-nil _)
    c.ranges.m c.ranges.t c.ranges.p c.type_inv.keyid c.type_inv.associated c.requires.keyid_fits c.requires.associated_fits)

pub returns-clause-again : goal.returns-clause-again
returns-clause-again c = λ o valid.
    read_again c.args.m c.args.t c.args.p c.args.keyid.now c.args.associated.now None (omega arith) (omega arith) (omega arith)
    (λ i. omega (arith, c.type_inv.keyid i)) (λ i. omega (arith, c.type_inv.associated i))
    c.requires.keyid_fits c.requires.associated_fits (valid_without c.args.m c.args.t c.args.p o valid)
