-- The login store: what callers see of it, and what each call does.
use Rattle.std.specs.Prelude.{◌≡◌, ℕ, ◌<◌, List, Option, Some, None, IsSome, IsSomeAnd, Result, Ok, Err, codes}
use Rattle.std.specs.FinMap.{empty, get, insert}
use Rattle.argon2_base.specs.Error.{hash_error_text}
use Rattle.argon2_base.specs.PhcText.{Phc, IsPhcText, HasBytes}
use Rattle.argon2_base.specs.declared.error.password_hash.Error.{Error as HashError}
use Rattle.argon2_base.specs.declared.error.password_hash.Error.TheVariants.{OutputSize}
use Rattle.argon2.specs.declared.login.Login.{Login}
use Rattle.argon2.specs.declared.login.answers.Accepted.{Accepted}
use Rattle.argon2.specs.declared.login.answers.Accepted.TheVariants.{Current, Kept, Rehashed}
use Rattle.argon2.specs.declared.login.answers.LoginError.{LoginError}
use Rattle.argon2.specs.declared.login.answers.LoginError.TheVariants.{NameTaken, NameUnknown, OutOfMemory, Refused, Text}
use Rattle.argon2.specs.declared.login.target.Target.{Target}
use Rattle.argon2.specs.TextHashing.{TargetValue, IsTarget, hash_value, tag_length, target_of}
use Rattle.argon2.specs.NamedTexts.{IsCurrent, IsText, Store, values_of}
use Rattle.argon2.specs.StoredTexts.{AcceptsBy, IsVerifyAnswer}

-- what a contract sees of the code's target
abbrev pub target_value : Target → TargetValue
target_value target = target_of target.argon2

-- a target whose hashes fit into texts, or the refusal of longer ones
abbrev pub IsNewTarget : TargetValue → Result Target HashError → Type 0
IsNewTarget target (Ok own) = IsTarget target × (target_value own ≡ target)
IsNewTarget target (Err e) = (e ≡ OutputSize) × (64 < tag_length target.settings)

-- the texts that a login store has
abbrev pub store_of : Login → Store
store_of login = values_of login.texts

-- what a login store renews its texts by
abbrev pub login_target : Login → TargetValue
login_target login = target_value login.target

-- a store without names, of a target whose hashes fit into texts, or the refusal of longer ones
abbrev pub IsNew : TargetValue → Result Login HashError → Type 0
IsNew target (Ok login) =
    IsTarget (login_target login) × (login_target login ≡ target) × (store_of login ≡ empty)
IsNew target (Err e) = (e ≡ OutputSize) × (64 < tag_length target.settings)

-- the name has a text, and it accepts the password
abbrev pub HasPassword : TargetValue → Store → List ℕ → List ℕ → Type 0
HasPassword target store name password = IsSomeAnd (get store name) (AcceptsBy target.secret password)

-- ---- a call and its answer

-- A login is recorded with the 16 bytes that the generator would give.
pub data Event : Type 0 where
  adding : List ℕ → List ℕ → Result (Unit {0}) LoginError → Event
  logging_in : List ℕ → List ℕ → List ℕ → Result Accepted LoginError → Event

-- why `add` refuses
abbrev pub IsAddRefusal : Store → List ℕ → List ℕ → LoginError → Type 0
IsAddRefusal before name text Text = (v : Phc) → IsPhcText text v → ⊥
IsAddRefusal before name text NameTaken = IsText text × IsSome (get before name)
IsAddRefusal before name text OutOfMemory = IsText text × (get before name ≡ None)
IsAddRefusal before name text _ = ⊥

-- what `add` answers, and the store after it
abbrev pub IsAddStep : Store → List ℕ → List ℕ → Result (Unit {0}) LoginError → Store → Type 0
IsAddStep before name text (Ok _) after =
    (get before name ≡ None) × (v : Phc) × IsPhcText text v × (after ≡ insert before name v)
IsAddStep before name text (Err e) after = IsAddRefusal before name text e × (after ≡ before)

-- why a login is refused for a name with this text or none
abbrev pub IsLoginRefusal : TargetValue → List ℕ → Option Phc → LoginError → Type 0
IsLoginRefusal target password None NameUnknown = Unit {0}
IsLoginRefusal target password (Some v) (Refused e) = IsVerifyAnswer target.secret password v (Err e)
IsLoginRefusal target password _ _ = ⊥

-- what an accepted login does with the name's text
abbrev pub IsAcceptedStep : TargetValue → Store → List ℕ → List ℕ → List ℕ → Phc → Accepted → Store → Type 0
IsAcceptedStep target before name password drawn v Current after = IsCurrent target v × (after ≡ before)
IsAcceptedStep target before name password drawn v Rehashed after = ¬ (IsCurrent target v)
    × HasBytes 8 48 drawn × (after ≡ insert before name (hash_value target password drawn))
IsAcceptedStep target before name password drawn v Kept after = ¬ (IsCurrent target v) × (after ≡ before)

-- what a login answers if the name has this text or none, and the store after it
abbrev pub IsLoginAnswer :
    TargetValue → Store → List ℕ → List ℕ → List ℕ → Option Phc → Result Accepted LoginError → Store → Type 0
IsLoginAnswer target before name password drawn None (Ok _) after = ⊥
IsLoginAnswer target before name password drawn (Some v) (Ok accepted) after =
    AcceptsBy target.secret password v × IsAcceptedStep target before name password drawn v accepted after
IsLoginAnswer target before name password drawn found (Err e) after =
    IsLoginRefusal target password found e × (after ≡ before)

-- what a call answers, and the store after it
abbrev pub IsLoginStep : TargetValue → Store → Event → Store → Type 0
IsLoginStep target before (adding name text answer) after = IsAddStep before name text answer after
IsLoginStep target before (logging_in name password drawn answer) after =
    IsLoginAnswer target before name password drawn (get before name) answer after

-- a call takes the store from one state to another
abbrev pub Steps : Event → Login → Login → Type 0
Steps event old new = IsLoginStep (login_target old) (store_of old) event (store_of new)

-- ---- texts

-- what an accepted login prints
abbrev pub accepted_text : Accepted → List ℕ
accepted_text Current = codes "hash is current"
accepted_text Rehashed = codes "hash is renewed"
accepted_text Kept = codes "hash is kept"

-- what a refusal prints
abbrev pub login_error_text : LoginError → List ℕ
login_error_text Text = codes "text is outside the grammar"
login_error_text NameTaken = codes "name is taken"
login_error_text NameUnknown = codes "name is unknown"
login_error_text OutOfMemory = codes "out of memory"
login_error_text (Refused e) = hash_error_text e
