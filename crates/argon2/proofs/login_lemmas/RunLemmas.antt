-- What each call keeps of a name, and so every list of calls.
use Rattle.argon2.proofs.Imports.{arith, ◌≡◌, ◌≢◌, ℕ, List, [], ◌∷◌, Option, Some, None, Result, Ok, Err, refl, ap, ◌∙◌, bytes_eq-Decides, IfSome, IsSomeAnd, get, get-empty}
use Rattle.argon2.proofs.Imports.{slice_cmp, nat_cmp, Phc, IsPhc, phc_text, Accepted, Current, Rehashed, Kept, LoginError, AcceptsBy, Accepts, Event, adding, logging_in, IsAddStep}
use Rattle.argon2.proofs.Imports.{IsLoginAnswer, IsCurrent, Store, newest, TargetValue, IsTarget, hash_value}
use Rattle.argon2.specs.Runs.{IsRun, source, accepted, IsFrom}
use Rattle.argon2.proofs.login_lemmas.Stores.{get-set}
use Rattle.argon2.proofs.password_hash_lemmas.MadeValues.{made_accepts, made_is_phc, made_shows}

-- what is known of the text of a name after an accepted login
abbrev Reached : TargetValue → Option (List ℕ × Accepted) → Option Phc → Type 0
Reached target None o = Unit {0}
Reached target (Some last) o =
    IsSomeAnd o (λ v. AcceptsBy target.secret last.0 v × (last.1 ≢ Kept → IsCurrent target v))

-- what is known of the text of a name
abbrev Known : TargetValue → List ℕ → List Event → Option Phc → Type 0
Known target name events o = IsFrom target (newest (source name) events) o × IfSome o IsPhc
    × Reached target (newest (accepted name) events) o

module _ (target : TargetValue) (fits : IsTarget target) where
  add_keeps : (before after : Store) (n added : List ℕ) (answer : Result (Unit {0}) LoginError) (older : List Event) →
      IsAddStep before n added answer after → ((name : List ℕ) → Known target name older (get before name)) →
      (name : List ℕ) → Known target name (adding n added answer ∷ older) (get after name)
  add_keeps before after n added (Err e) older step known name = rw step.1 (known name)
  add_keeps before after n added (Ok x) older step known name =
      let set = ap (λ m. get m name) step.3 ∙ get-set before n step.1 name in
      let hit = (bytes_eq-Decides name n).0 in
      let here = known name in
      grind arith

  login_keeps : (before after : Store) (n given drawn : List ℕ) (o : Option Phc)
      (answer : Result Accepted LoginError) (older : List Event) →
      get before n ≡ o → IsLoginAnswer target before n given drawn o answer after →
      ((name : List ℕ) → Known target name older (get before name)) →
      (name : List ℕ) → Known target name (logging_in n given drawn answer ∷ older) (get after name)
  login_keeps before after n given drawn None (Err e) older is step known name = rw step.1 (known name)
  login_keeps before after n given drawn (Some v) (Err e) older is step known name = rw step.1 (known name)
  login_keeps before after n given drawn None (Ok did) older is step known name = absurd step
  login_keeps before after n given drawn (Some v) (Ok Current) older is step known name =
      let here = known name in let hit = (bytes_eq-Decides name n).0 in grind arith
  login_keeps before after n given drawn (Some v) (Ok Kept) older is step known name =
      let here = known name in let hit = (bytes_eq-Decides name n).0 in grind arith
  login_keeps before after n given drawn (Some v) (Ok Rehashed) older is step known name =
      let set = ap (λ m. get m name) step.1.2 ∙ get-set before n (hash_value target given drawn) name in
      let here = known name in
      let made = made_is_phc target fits given drawn step.1.1 in
      let accepts = made_accepts target fits given drawn step.0.short in
      let current = made_shows target fits given drawn _ refl in
      grind arith

  -- what is known of a name's text after any calls
  pub all_known : (events : List Event) (store : Store) → IsRun target events store →
      (name : List ℕ) → Known target name events (get store name)
  all_known [] store run name = rw (run, get-empty (slice_cmp nat_cmp) name) (tt, tt, tt)
  all_known (adding n added answer ∷ older) store run name =
      add_keeps run.0 store n added answer older run.2 (all_known older run.0 run.1) name
  all_known (logging_in n given drawn answer ∷ older) store run name =
      login_keeps run.0 store n given drawn (get run.0 n) answer older refl run.2 (all_known older run.0 run.1) name

  after_last : (o : Option Phc) (given : List ℕ) (did : Accepted) → IfSome o IsPhc → Reached target (Some (given, did)) o →
      IsSomeAnd o (λ v. Accepts target.secret given (phc_text v)) × (did ≢ Kept → IsSomeAnd o (IsCurrent target))
  after_last None given did fits h = absurd h
  after_last (Some v) given did fits h = ((v, (fits, refl), h.0), h.1)

  -- what holds after the last accepted login
  pub last_holds : (events : List Event) (store : Store) → IsRun target events store →
      (name given : List ℕ) (did : Accepted) → newest (accepted name) events ≡ Some (given, did) →
      IsSomeAnd (get store name) (λ v. Accepts target.secret given (phc_text v))
      × (did ≢ Kept → IsSomeAnd (get store name) (IsCurrent target))
  last_holds events store run name given did e =
      let known = all_known events store run name in
      after_last (get store name) given did known.1 (rw e at known.2)
