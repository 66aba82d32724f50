-- What a service asks of its login store.
use Rattle.std.specs.Prelude.{◌≡◌, ◌≢◌, ◌≤◌, ◌⊎◌, ℕ, List, Option, Some, None, Result, Ok, Err, IsErrAnd, IsOk, IsSome, IsSomeAnd}
use Rattle.std.specs.FinMap.{get}
use Rattle.argon2.specs.StoredTexts.{AcceptsBy}
use Rattle.argon2.specs.Login.{IsAddStep, IsNew, IsLoginAnswer, Steps, logging_in, login_target, store_of}
use Rattle.argon2.specs.NamedTexts.{Store}
use Rattle.argon2.specs.TextHashing.{TargetValue, IsHashAnswer, hash_outcome, tag_length}
use Rattle.argon2.specs.declared.login.Login.{Login}
use Rattle.argon2.specs.declared.login.answers.Accepted.{Accepted}
use Rattle.argon2.specs.declared.login.answers.LoginError.{LoginError}
use Rattle.argon2.specs.declared.login.answers.LoginError.TheVariants.{NameTaken, NameUnknown, OutOfMemory, Refused}
use Rattle.argon2.specs.base_declared.error.password_hash.Error.TheVariants.{PasswordInvalid}

-- under a secret, the name's text accepts the password
abbrev pub HasPasswordUnder : List ℕ → Login → List ℕ → List ℕ → Type 0
HasPasswordUnder secret login name password =
    IsSomeAnd (get (store_of login) name) (AcceptsBy secret password)

-- what a login answers and leaves. An unknown name and a wrong password are no errors here.
abbrev pub FindsAndLeaves : Login → List ℕ → List ℕ → List ℕ → Result (Option Accepted) LoginError → Login → Type 0
FindsAndLeaves old name password drawn (Ok (Some did)) new = Steps (logging_in name password drawn (Ok did)) old new
FindsAndLeaves old name password drawn (Ok None) new =
    Steps (logging_in name password drawn (Err NameUnknown)) old new
    ⊎ Steps (logging_in name password drawn (Err (Refused PasswordInvalid))) old new
FindsAndLeaves old name password drawn (Err e) new =
    Steps (logging_in name password drawn (Err e)) old new × (e ≢ NameUnknown) × (e ≢ Refused PasswordInvalid)

-- why a name is not registered with a password and a salt: no text is made, or else `add` refuses it
abbrev pub IsRegisterRefusal : TargetValue → Login → List ℕ → List ℕ → List ℕ → LoginError → Type 0
IsRegisterRefusal target login name password salt NameTaken =
    IsOk (hash_outcome target password salt) × IsSome (get (store_of login) name)
IsRegisterRefusal target login name password salt OutOfMemory =
    IsOk (hash_outcome target password salt) × (get (store_of login) name ≡ None)
IsRegisterRefusal target login name password salt (Refused e) = IsHashAnswer target password salt (Err e)
IsRegisterRefusal target login name password salt _ = ⊥

-- what `add` does, and if that succeeds what `login` does then
abbrev pub TakesOver :
    Login → List ℕ → List ℕ → List ℕ → List ℕ → Result Accepted LoginError → Login → Type 0
TakesOver old name text password drawn result new =
    IsErrAnd result (λ e. IsAddStep (store_of old) name text (Err e) (store_of new))
    ⊎ ((between : Store) × IsAddStep (store_of old) name text (Ok tt) between
    × IsLoginAnswer (login_target old) between name password drawn (get between name) result (store_of new))

-- why a store is not moved to a target: its hashes don't fit into texts, or else memory was refused
abbrev pub IsMoveRefusal : TargetValue → LoginError → Type 0
IsMoveRefusal target (Refused e) = IsNew target (Err e)
IsMoveRefusal target OutOfMemory = tag_length target.settings ≤ 64
IsMoveRefusal target _ = ⊥
