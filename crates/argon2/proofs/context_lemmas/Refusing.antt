-- What a call answers that its table of faults does not refuse.
use Rattle.argon2.proofs.Imports.{◌≡◌, ℕ, ◌≤◌, false, true, Bool, List, [], ◌∷◌, ◌++◌, Option, None, Result, Ok, length, refl, arith, nat_lt, nat_tests, Argon2, context_of, own_parameters}
use Rattle.argon2.proofs.Imports.{ChecksFirst, refusal_of, block_count, Error}
use Rattle.argon2.specs.Refusals.{answer_unless, associated_refusal, first_of, input_faults, max_len, memory_faults, output_faults}

-- an answer says that there is no fault
unrefused : {A : Type 0} (refusal : Option Error) (x y : A) → Ok x ≡ answer_unless refusal y → refusal ≡ None
unrefused refusal x y is = grind arith

-- so that any other value is an answer
pub answered : {A B : Type 0} (refusal : Option Error) (x y : A) (v : B) → Ok x ≡ answer_unless refusal y → Ok v
    ≡ answer_unless refusal v
answered refusal x y v is = rw (unrefused refusal x y is) refl

-- nor is there a fault in a prefix of the table
front_of : (xs ys : List (Bool × Error)) → first_of (xs ++ ys) ≡ None → first_of xs ≡ None
front_of [] ys none = refl
front_of ((false, fault) ∷ xs) ys none = front_of xs ys none
front_of ((true, fault) ∷ xs) ys none = cc

-- a call that asks for memory after the same checks has no fault, and with that memory an answer
pub checked_first : (argon2 : Argon2) (associated n lent lent' : ℕ) (password salt : List ℕ) (x y : Unit {0})
    (r : Result (Unit {0}) Error)
    → associated ≤ max_len → Ok x ≡ answer_unless (refusal_of argon2 n password salt lent) y → lent' ≡ lent
    → r ≡ answer_unless (refusal_of argon2 n password salt lent') y
    → ChecksFirst (associated_refusal associated (own_parameters argon2).output_len n (length password) (length salt)) r
checked_first argon2 associated n lent lent' password salt x y r few passed enough is =
    let small : nat_lt max_len associated ≡ false = grind (arith, nat_tests) in
    let none = unrefused (refusal_of argon2 n password salt lent) x y passed in
    let faults = output_faults (own_parameters argon2).output_len n ++ input_faults (length password) (length salt) in
    let front : first_of faults ≡ None = front_of faults (memory_faults (block_count (context_of argon2)) lent) none in
    let ok = rw (enough, none) at is in
    rw (small, front, ok) tt
