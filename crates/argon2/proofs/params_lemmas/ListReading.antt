-- Reading the items of a parameter list one after another.
use Rattle.argon2.proofs.Imports.{◌≡◌, ℕ, true, List, [], ◌∷◌, Option, Some, None, Result, Ok, Err, refl, arith, option_or, option_and_then, bytes_eq-Decides, IsErr, IsErrAnd, Fault}
use Rattle.argon2.proofs.Imports.{fault_of, outcome_of, Pair, are_distinct, are_params, value_of, Items, item_fault, item_taken, items_fault, items_of, items_over, items_read, HashError}

-- What was read, if `rest` is left.
pub record Reading (list rest : List Pair) (found : Items) : Type 0 where
  pub names : are_distinct rest ≡ true
  pub fault : items_fault rest ≡ items_fault list
  pub items : items_over rest found ≡ items_of list

pub or_none : {X : Type 0} (o : Option X) → option_or o None ≡ o
or_none None = refl
or_none (Some x) = refl

abbrev no_items : Items
no_items = record { m = None; t = None; p = None; keyid = None; associated = None }

-- before the first item nothing is read
pub nothing_read : (list : List Pair) → are_params list ≡ true → Reading list list no_items
nothing_read list params = record { names = grind arith; fault = refl; items = simp or_none }

-- a value that is read by `read`, if there is one, else what was found before
abbrev found_over : {X : Type 0} → (List ℕ → Option X) → Option (List ℕ) → Option X → Option X
found_over read value before = option_or (option_and_then read value) before

-- what is read of the first item and then of the rest is what is read of both
read_next : {X : Type 0} (read : List ℕ → Option X) (name : List ℕ) (item : Pair) (rest : List Pair) (before : Option X)
    → value_of item.0 rest ≡ None
    → found_over read (value_of name rest) (found_over read (value_of name (item ∷ [])) before)
    ≡ found_over read (value_of name (item ∷ rest)) before
read_next read name item rest before once = let same = (bytes_eq-Decides item.0 name).0 in grind arith

-- one more item adds what is found under each name
items_next : (item : Pair) (rest : List Pair) (before : Items) → value_of item.0 rest ≡ None
    → items_over rest (items_over (item ∷ []) before) ≡ items_over (item ∷ rest) before
items_next item rest before once = simp read_next

-- ---- one item more

-- if it is taken
pub one_more : (list rest : List Pair) (item : Pair) (before after : Items) → Reading list (item ∷ rest) before
    → Ok after ≡ item_taken item before → Reading list rest after
one_more list rest item before after r taken =
    let parts : (item_fault item ≡ None) × (after ≡ items_over (item ∷ []) before) = grind arith in
    let names = r.names in
    let once : (value_of item.0 rest ≡ None) × (are_distinct rest ≡ true) = grind arith in
    record { names = once.1; fault = rw parts.0 at r.fault; items = rw (parts.1, items_next item rest before once.0) r.items }

-- if it is refused
pub item_refused : (list rest : List Pair) (item : Pair) (before : Items) (f : Fault) → Reading list (item ∷ rest) before
    → Err f ≡ item_taken item before → Err f ≡ items_read list
item_refused list rest item before f r refused =
    let fault : item_fault item ≡ Some f = grind arith in rw (← r.fault, fault) refl

-- an error that is passed on
pub passed_on : {X Y : Type 0} (view : X → Y) (r : Result X HashError) (e : HashError) → IsErr r × IsErrAnd r (λ e'. e' ≡ e)
    → outcome_of view r ≡ Err (fault_of e)
passed_on view (Ok x) e h = absurd h.1
passed_on view (Err e') e h = rw h.1 refl
