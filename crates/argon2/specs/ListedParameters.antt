-- The parameters that a list means, item after item, and the list that parameters print.
use Rattle.std.specs.Prelude.{◌≡◌, ℕ, List, [], ◌∷◌, ◌++◌, codes, if◌then◌else◌, Option, Some, None, IsNone, Result, Ok, Err, ok_or, unwrap_or, option_and_then, ◌⊎◌, length}
use Rattle.std.specs.Fmt.{decimal}
use Rattle.std.specs.Option.{option_or, option_and_then, option_map}
use Rattle.std.specs.Str.{bytes_eq}
use Rattle.argon2_base.specs.Texts.{number_of, strict_base64}
pub use Rattle.argon2_base.specs.Texts.{short_bytes}
use Rattle.argon2_base.specs.PhcText.{Pair, IsParamsText, Phc, value_of}
use Rattle.argon2_base.specs.declared.error.password_hash.Error.{Error as HashError}
use Rattle.argon2_base.specs.Error.{Fault, as_fault, bad_param, bad_params, outcome_of}
use Rattle.argon2.specs.Settings.{Parameters, first_fault, cost_parameters}
use Rattle.argon2.specs.Argon2.{associated_bytes, keyid_bytes, parameters_of}
use Rattle.argon2.specs.declared.params.reading.Found.{Found}
use Rattle.argon2.specs.declared.params.Params.{Params}

-- ---- the parameters of a list

-- an item of a name and bytes, or no item if there are no bytes
abbrev pub bytes_item : List ℕ → List ℕ → List Pair
bytes_item name [] = []
bytes_item name (x ∷ b) = (name, strict_base64 (x ∷ b)) ∷ []

-- the list of costs, a key identifier and associated data
abbrev pub parameter_items : ℕ → ℕ → ℕ → List ℕ → List ℕ → List Pair
parameter_items m t p keyid associated =
    ((codes "m", decimal m) ∷ (codes "t", decimal t) ∷ (codes "p", decimal p) ∷ [])
    ++ bytes_item (codes "keyid") keyid ++ bytes_item (codes "data") associated

-- the list of parameters; it has no output length
abbrev pub list_of : Parameters → List Pair
list_of v = parameter_items v.m_cost v.t_cost v.p_cost v.keyid v.associated

-- ---- reading

-- a value that can't be read is a fault of its parameter
abbrev pub unless_read : {X : Type 0} → Option X → List ℕ → Option Fault
unless_read (Some x) name = None
unless_read None name = Some (bad_param name)

-- why an item is refused
abbrev pub item_fault : Pair → Option Fault
item_fault p =
    if bytes_eq p.0 (codes "m") then unless_read (number_of p.1) (codes "m")
    else if bytes_eq p.0 (codes "t") then unless_read (number_of p.1) (codes "t")
    else if bytes_eq p.0 (codes "p") then unless_read (number_of p.1) (codes "p")
    else if bytes_eq p.0 (codes "keyid") then unless_read (short_bytes 8 p.1) (codes "keyid")
    else if bytes_eq p.0 (codes "data") then unless_read (short_bytes 32 p.1) (codes "data")
    else Some bad_params

-- the fault of the first item that is refused
abbrev pub items_fault : List Pair → Option Fault
items_fault [] = None
items_fault (p ∷ ps) = option_or (item_fault p) (items_fault ps)

-- values by their names
abbrev pub number_at : List ℕ → List Pair → Option ℕ
number_at name ps = option_and_then number_of (value_of name ps)

abbrev pub bytes_at : ℕ → List ℕ → List Pair → List ℕ
bytes_at most name ps = unwrap_or (option_and_then (short_bytes most) (value_of name ps)) []

-- refused by the fault, if there is one
abbrev pub unless_fault : {X : Type 0} → Option Fault → Result X Fault → Result X Fault
unless_fault None next = next
unless_fault (Some fault) next = Err fault

-- the value that was read, or the fault
abbrev pub result_and_then : {X Y : Type 0} → Result X Fault → (X → Result Y Fault) → Result Y Fault
result_and_then (Ok x) next = next x
result_and_then (Err fault) next = Err fault

-- the parameters of a list, with this output length, or the first fault: each of m, t and p has to be there, and
-- together they have to be valid
abbrev pub params_of : Option ℕ → List Pair → Result Parameters Fault
params_of output_len ps = unless_fault (items_fault ps) (result_and_then (ok_or (number_at (codes "m") ps) bad_params) (λ m.
    result_and_then (ok_or (number_at (codes "t") ps) bad_params) (λ t.
    result_and_then (ok_or (number_at (codes "p") ps) bad_params) (λ p.
    unless_fault (option_map as_fault (first_fault m t p output_len)) (Ok (record {
      m_cost = m;
      t_cost = t;
      p_cost = p;
      keyid = bytes_at 8 (codes "keyid") ps;
      associated = bytes_at 32 (codes "data") ps;
      output_len = output_len;
    }))))))

-- valid costs with bytes, listed, are read as the same, with no length of output
abbrev pub AreReadAgain : ℕ → ℕ → ℕ → List ℕ → List ℕ → Type 0
AreReadAgain m t p keyid associated = (output_len : Option ℕ) → IsNone (first_fault m t p output_len) →
    params_of None (parameter_items m t p keyid associated)
    ≡ Ok (record (cost_parameters m t p None) { keyid = keyid; associated = associated })

-- ---- what has been read of a list, item after item

-- the value that was read under each name
pub record Items : Type 0 where
  pub m : Option ℕ
  pub t : Option ℕ
  pub p : Option ℕ
  pub keyid : Option (List ℕ)
  pub associated : Option (List ℕ)

abbrev pub found_of : Found → Items
found_of found = record {
  m = found.m;
  t = found.t;
  p = found.p;
  keyid = option_map keyid_bytes found.keyid;
  associated = option_map associated_bytes found.associated;
}

-- the values of items
abbrev pub items_of : List Pair → Items
items_of ps = record {
  m = number_at (codes "m") ps;
  t = number_at (codes "t") ps;
  p = number_at (codes "p") ps;
  keyid = option_and_then (short_bytes 8) (value_of (codes "keyid") ps);
  associated = option_and_then (short_bytes 32) (value_of (codes "data") ps);
}

-- the values of items; a name that no item has keeps the value that was read before
abbrev pub items_over : List Pair → Items → Items
items_over ps before = record {
  m = option_or (items_of ps).m before.m;
  t = option_or (items_of ps).t before.t;
  p = option_or (items_of ps).p before.p;
  keyid = option_or (items_of ps).keyid before.keyid;
  associated = option_or (items_of ps).associated before.associated;
}

-- the values after one more item, or the fault of the item
abbrev pub item_taken : Pair → Items → Result Items Fault
item_taken item before = unless_fault (item_fault item) (Ok (items_over (item ∷ []) before))

-- the values of a list, or the fault of its first item that is refused
abbrev pub items_read : List Pair → Result Items Fault
items_read ps = unless_fault (items_fault ps) (Ok (items_of ps))

-- ---- what reading and listing answer

-- the parameters that a PHC text's value asks for, whose output length is the hash's, or why it has none
abbrev pub asked_of : Phc → Result Parameters Fault
asked_of v = params_of (option_map length v.hash) v.params

-- the answer for a text: the answer for its list, or `ParamsInvalid` if it is the text of no list
abbrev pub IsTextAnswer : List ℕ → Result Params HashError → Type 0
IsTextAnswer text r =
    ((ps : List Pair) → IsParamsText text ps → outcome_of parameters_of r ≡ params_of None ps)
    × (((ps : List Pair) × IsParamsText text ps)
    ⊎ (((ps : List Pair) → IsParamsText text ps → ⊥) × (outcome_of parameters_of r ≡ Err bad_params)))

-- the list of parameters, which is read as the same, with no length of output
abbrev pub IsListOf : Parameters → Result (List Pair) HashError → Type 0
IsListOf v r =
    (r ≡ Ok (list_of v)) × (params_of None (list_of v) ≡ Ok (record v { output_len = None }))
