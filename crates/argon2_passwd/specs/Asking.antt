-- What the program asks for on a terminal, and the lines that it takes.
use Rattle.std.specs.Prelude.{◌≡◌, ◌≢◌, ◌⊎◌, ℕ, List, [], ◌∷◌, ◌++◌, Option, Some, None, Bool, true, false, IfSome, codes, if◌then◌else◌, bytes_eq}
use Rattle.std.specs.Io.BufRead.{strip_last, take_through}
use Rattle.argon2_passwd.specs.Failures.{status_of}
use Rattle.argon2_passwd.specs.Texts.{Known, after_line}
use Rattle.argon2_passwd.specs.declared.asking.Questions.{Questions}
use Rattle.argon2_passwd.specs.declared.asking.Questions.TheVariants.{Password, NewPassword, TextAndPassword, OldAndNewPassword}
use Rattle.argon2_passwd.specs.declared.command.Action.{Action}
use Rattle.argon2_passwd.specs.declared.command.Action.TheVariants.{Hash, Check, OnFile}
use Rattle.argon2_passwd.specs.declared.command.EditTask.TheVariants.{Register, Change, Set}
use Rattle.argon2_passwd.specs.declared.command.Task.TheVariants.{Verify, Edit as Edits, Import, ImportOthers}
use Rattle.argon2_passwd.specs.declared.failure.Failure.{Failure}
use Rattle.argon2_passwd.specs.declared.failure.Failure.TheVariants.{NoPassword, Differing}

-- the questions of a command, if it reads passwords
abbrev pub questions_of : Action → Option Questions
questions_of Hash = Some NewPassword
questions_of (Check text) = if bytes_eq text.now (codes "-") then Some TextAndPassword else Some Password
questions_of (OnFile path (Verify name)) = Some Password
questions_of (OnFile path (Edits Register name)) = Some NewPassword
questions_of (OnFile path (Edits Set name)) = Some NewPassword
questions_of (OnFile path (Edits Change name)) = Some OldAndNewPassword
questions_of _ = None

-- whether a command reads all lines of its input
abbrev pub takes_lines : Action → Bool
takes_lines (OnFile path (Import any_text)) = true
takes_lines (OnFile path (ImportOthers any_text)) = true
takes_lines _ = false

-- a question, and the line feed that is written after its answer was typed
abbrev pub asked : List ℕ → List ℕ
asked question = question ++ 10 ∷ []

-- a new password is asked for twice
abbrev pub asked_twice : List ℕ
asked_twice = asked (codes "new password: ") ++ asked (codes "new password again: ")

-- all that is written for these questions
abbrev pub dialogue : Questions → List ℕ
dialogue Password = asked (codes "password: ")
dialogue NewPassword = asked_twice
dialogue TextAndPassword = asked (codes "hash: ") ++ asked (codes "password: ")
dialogue OldAndNewPassword = asked (codes "old password: ") ++ asked_twice

-- the first line, with a line feed at its end also if the input ends without one
abbrev pub whole_line : List ℕ → List ℕ
whole_line bytes = strip_last 10 (take_through 10 bytes) ++ 10 ∷ []

-- `P` holds of the first line of the input, if the input is known
abbrev pub ReadsLine : (List ℕ → Type 0) → Known → Type 0
ReadsLine P input = (line : List ℕ) × IfSome input (λ bytes. (bytes ≢ []) × (line ≡ whole_line bytes)) × P line

-- `P` holds of the first two lines of the input
abbrev pub ReadsTwo : (List ℕ → List ℕ → Type 0) → Known → Type 0
ReadsTwo P input = ReadsLine (λ first. ReadsLine (P first) (after_line input)) input

-- a new password was typed twice, and its line is taken once
abbrev pub TakesTwice : List ℕ → Known → Type 0
TakesTwice taken input = ReadsTwo (λ first again. (again ≡ first) × (taken ≡ first)) input

-- the lines that are taken for these questions
abbrev pub Takes : Questions → List ℕ → Known → Type 0
Takes Password taken input = ReadsLine (λ line. taken ≡ line) input
Takes NewPassword taken input = TakesTwice taken input
Takes TextAndPassword taken input = ReadsTwo (λ text line. taken ≡ text ++ line) input
Takes OldAndNewPassword taken input =
    ReadsLine (λ old. (new : List ℕ) × (taken ≡ old ++ new) × TakesTwice new (after_line input)) input

-- no line is taken, because the input ends, or because a stream or a request for memory fails
abbrev pub TakesNone : Failure → Known → Type 0
TakesNone NoPassword input = IfSome input (λ bytes. bytes ≡ [])
TakesNone failure input = status_of failure ≡ 3

-- no new password is taken: a line is missing, or the two lines differ
abbrev pub TakesNoNew : Failure → Known → Type 0
TakesNoNew failure input = TakesNone failure input ⊎ ReadsLine (λ first. TakesNone failure (after_line input)
    ⊎ ((failure ≡ Differing) × ReadsLine (λ again. again ≢ first) (after_line input))) input

-- why no lines are taken for these questions
abbrev pub FailsToTake : Questions → Failure → Known → Type 0
FailsToTake Password failure input = TakesNone failure input
FailsToTake NewPassword failure input = TakesNoNew failure input
FailsToTake TextAndPassword failure input =
    TakesNone failure input ⊎ ReadsLine (λ text. TakesNone failure (after_line input)) input
FailsToTake OldAndNewPassword failure input =
    TakesNone failure input ⊎ ReadsLine (λ old. TakesNoNew failure (after_line input)) input
