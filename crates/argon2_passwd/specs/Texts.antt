-- The passwords of an input, and the texts that are made of them.
use Rattle.std.specs.Prelude.{◌≡◌, ◌≢◌, ◌⊎◌, ℕ, List, [], ◌∷◌, ◌++◌, Option, Some, None, IfSome, IsSomeAnd}
use Rattle.std.specs.Io.BufRead.{drop_through}
use Rattle.std.specs.Option.{option_map}
use Rattle.argon2_base.specs.PhcText.{phc_text}
use Rattle.argon2.specs.Login.{accepted_text}
use Rattle.argon2.specs.TextHashing.{IsFresh}
use Rattle.argon2.specs.declared.login.answers.Accepted.{Accepted}
use Rattle.argon2.specs.declared.login.answers.Accepted.TheVariants.{Rehashed}
use Rattle.argon2_policy.specs.Policy.{AdmitsStored, Denies, IsMakingRefusal, PolicyValue}
use Rattle.argon2_passwd.specs.Passwords.{password_of}
use Rattle.argon2_passwd.specs.Salts.{IsSalt}
use Rattle.argon2_passwd.specs.Failures.{Denial, Failure, denial_failure}
use Rattle.argon2_passwd.specs.Lines.{Bor, Phc}

-- the bytes of a stream, if they are known
abbrev pub Known : Type 0
Known = Option (List ℕ)

-- `P` holds of the password on the first line of the input, if the input is known
abbrev pub ReadsPassword : (List ℕ → Type 0) → Known → Type 0
ReadsPassword P input =
    (password : List ℕ) × IfSome input (λ bytes. password_of bytes ≡ Some password) × P password

-- the rest of the input after its first line
abbrev pub after_line : Known → Known
after_line input = option_map (drop_through 10) input

-- a fresh text of the password on the first line, which is not empty, with a salt that the system gave
abbrev pub IsNewText : (List ℕ → Type 0) → PolicyValue → Known → Phc → Type 0
IsNewText Gives policy input v = ReadsPassword (λ password. (password ≢ []) × (drawn : List ℕ)
    × IsSalt Gives drawn × IsFresh policy.target password drawn v) input

-- what `check` prints: what the login did with the text, and a line with the fresh text if there is one
abbrev pub login_text : Accepted → Phc → List ℕ
login_text Rehashed fresh = accepted_text Rehashed ++ 10 ∷ phc_text fresh
login_text did fresh = accepted_text did

-- the policy refuses by what is stored, and its reason becomes this failure
abbrev pub IsDenied : (Option (List ℕ) → Denial → Type 0) → Option (List ℕ) → Failure → Type 0
IsDenied Why stored failure = (why : Denial) × Why stored why × (failure ≡ denial_failure why)

-- why the second password does not replace the first: what is stored refuses the first, or no text is made of the second
abbrev pub RefusesChange : PolicyValue → List ℕ → List ℕ → Option (List ℕ) → Denial → Type 0
RefusesChange policy first second stored why =
    Denies policy first stored why ⊎ (AdmitsStored policy first stored × IsMakingRefusal second why)

-- the secret in the file at a path, or none without a path
abbrev pub IsSecret : (List ℕ → List ℕ → Type 0) → Option (Bor (List ℕ)) → Option (List ℕ) → Type 0
IsSecret Holds None secret = secret ≡ None
IsSecret Holds (Some path) secret = IsSomeAnd secret (Holds path.now)
