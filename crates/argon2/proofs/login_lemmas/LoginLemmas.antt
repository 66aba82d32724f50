-- One login as a step.
use Rattle.argon2.proofs.Imports.{◌≡◌, refl, ℕ, List, Some, Ok, ◌⊎◌, arith, ◌≢◌, get, insert, phc_of, Phc, OutOfMemory, PasswordHash, Accepted, Current, Kept, Rehashed, Refused, AcceptsBy}
use Rattle.argon2.proofs.Imports.{IsLoginAnswer, Store, IsCurrent, Leaves, TargetValue, IsTarget, hash_value, IsHashAnswer, HashError}
use Rattle.argon2.proofs.login_lemmas.Stores.{insert-same}
use Rattle.argon2.proofs.password_hash_lemmas.MadeValues.{made_accepts, made_shows}

-- a refusal of a text as the store's
pub refused_text : {P : Type 0} (e : HashError) → (e ≡ OutOfMemory) ⊎ (P → ⊥) → (Refused e ≡ Refused OutOfMemory) ⊎ (P → ⊥)
refused_text e refused = grind arith

-- what a hash that was answered is
pub hash_made : (target : TargetValue) (password salt : List ℕ) (h : PasswordHash) →
    IsHashAnswer target password salt (Ok h) → phc_of h ≡ hash_value target password salt
hash_made target password salt h answer = grind arith

-- ---- what an accepted login leaves

pub text_left : (target : TargetValue) → IsTarget target → (password drawn : List ℕ) (v w : Phc) (did : Accepted)
    → AcceptsBy target.secret password v × Leaves target password drawn v did w
    → ((store : Store) (name : List ℕ) → get store name ≡ Some v
    → IsLoginAnswer target store name password drawn (Some v) (Ok did) (insert store name w))
    × AcceptsBy target.secret password w × (did ≢ Kept → IsCurrent target w)
text_left target fits password drawn v w Current left =
    (λ store name has. let same = insert-same store name v has in grind arith, rw left.1.1 left.0, λ _. grind arith)
text_left target fits password drawn v w Rehashed left =
    let accepts : AcceptsBy target.secret password w = rw left.1.1.2 (made_accepts target fits password drawn left.1.1.1) in
    let shows = made_shows target fits password drawn w left.1.1.2 in
    (λ store name has. grind arith, accepts, λ _. shows)
text_left target fits password drawn v w Kept left =
    (λ store name has. let same = insert-same store name v has in grind arith, rw left.1.1 left.0, λ no. absurd (no refl))
