-- Lists of calls of a login store, and where a name's text is from.
use Rattle.std.specs.Prelude.{◌≡◌, ℕ, List, [], ◌∷◌, if◌then◌else◌, Option, Some, None, Ok}
use Rattle.std.specs.Str.{bytes_eq}
use Rattle.std.specs.FinMap.{empty}
use Rattle.argon2_base.specs.PhcText.{Phc, IsPhcText}
use Rattle.argon2.specs.declared.login.answers.Accepted.{Accepted}
use Rattle.argon2.specs.declared.login.answers.Accepted.TheVariants.{Rehashed}
use Rattle.argon2.specs.Login.{Event, adding, logging_in, IsLoginStep}
use Rattle.argon2.specs.NamedTexts.{Store}
use Rattle.argon2.specs.TextHashing.{TargetValue, hash_value}

-- the store is what these calls, the newest first, made of the empty one
abbrev pub IsRun : TargetValue → List Event → Store → Type 0
IsRun target [] store = store ≡ empty
IsRun target (event ∷ older) store =
    (before : Store) × IsRun target older before × IsLoginStep target before event store

-- ---- where a name's text is from

pub data Source : Type 0 where
  text : List ℕ → Source  -- the text that was added
  password : List ℕ → List ℕ → Source  -- a password and the 16 bytes that it was hashed with

-- what gives the name its text at a call
abbrev pub source : List ℕ → Event → Option Source
source name (adding n added (Ok _)) = if bytes_eq name n then Some (text added) else None
source name (logging_in n given drawn (Ok Rehashed)) =
    if bytes_eq name n then Some (password given drawn) else None
source name _ = None

-- the value comes from there
abbrev pub IsFrom : TargetValue → Option Source → Option Phc → Type 0
IsFrom target None None = Unit {0}
IsFrom target (Some (text added)) (Some v) = IsPhcText added v
IsFrom target (Some (password given drawn)) (Some v) = v ≡ hash_value target given drawn
IsFrom target _ _ = ⊥

-- ---- the last accepted login of a name

-- the password of a login of the name, and what the login did
abbrev pub accepted : List ℕ → Event → Option (List ℕ × Accepted)
accepted name (logging_in n given drawn (Ok did)) = if bytes_eq name n then Some (given, did) else None
accepted name _ = None
