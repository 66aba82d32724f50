-- Why the program fails.
use Rattle.std.specs.Prelude.{◌≡◌, ℕ, false, Bool, IsTrue, List, codes, if◌then◌else◌, Result, Ok, Err}
use Rattle.std.specs.IoError.{error_kind}
use Rattle.std.specs.Result.{result_map_both}
use Rattle.std.specs.declared.io.Error.{Error as IoError}
use Rattle.std.specs.declared.io.ErrorKind.{ErrorKind}
use Rattle.std.specs.declared.io.ErrorKind.TheVariants.{BrokenPipe}
use Rattle.argon2_base.specs.declared.error.password_hash.Error.TheVariants.{OutOfMemory, PasswordInvalid}
use Rattle.argon2_policy.specs.Denials.{is_wrong}
pub use Rattle.argon2_policy.specs.declared.denial.Denial.{Denial}
use Rattle.argon2_policy.specs.declared.denial.Denial.TheVariants as denial
use Rattle.argon2_passwd.specs.declared.command.Action.{Action}
use Rattle.argon2_passwd.specs.declared.command.Action.TheVariants.{OnFile}
use Rattle.argon2_passwd.specs.declared.command.EditTask.TheVariants.{Change}
use Rattle.argon2_passwd.specs.declared.command.Task.TheVariants.{Verify, Edit as Edits}
pub use Rattle.argon2_passwd.specs.declared.failure.Failure.{Failure}
pub use Rattle.argon2_passwd.specs.declared.failure.Failure.TheVariants.{NoPassword, LongPassword, EmptyPassword, Differing, Name, Params, Denied, Line, Passed, Unopened, File, BrokenLine, Output, Unread, Memory}
pub use Rattle.argon2_store.specs.Errors.{is_refusal}
pub use Rattle.argon2_store.specs.declared.error.FileError.{FileError}
use Rattle.argon2_store.specs.declared.error.FileError.TheVariants as file
pub use Rattle.argon2_store.specs.declared.error.LineError.{LineError}
use Rattle.argon2_store.specs.declared.error.LineError.TheVariants as lines
use Rattle.argon2_store.specs.declared.error.OpenError.{OpenError}
use Rattle.argon2_store.specs.declared.error.OpenError.TheVariants as no

-- The exit status: 1 if a password, a name or a line is refused, 2 if the parameters are above the bound, 4 if no password opens
-- a text or lines were passed over, and 3 if a file, a stream or a request for memory fails.
abbrev pub status_of : Failure → ℕ
status_of NoPassword = 1
status_of LongPassword = 1
status_of EmptyPassword = 1
status_of Differing = 1
status_of (Name why) = 1
status_of Params = 2
status_of (Denied why) = if is_wrong why then 1 else 4
status_of (Line number why) = 1
status_of (Passed lines) = 4
status_of (File error) = if is_refusal error then 1 else 3
status_of _ = 3

-- the result of a command that prints its answer itself
abbrev pub Outcome : Type 0
Outcome = Result (Unit {0}) Failure

-- the result of a call, with its error turned into a failure
abbrev pub outcome_by : {E : Type 0} → (E → Failure) → Result (Unit {0}) E → Outcome
outcome_by failure done = result_map_both (λ x. x) failure done

-- the exit status of a command with this result
abbrev pub status_by : Outcome → ℕ
status_by (Ok _) = 0
status_by (Err failure) = status_of failure

-- the failure that an error of a write becomes: standard output has no reader, or can't be written
abbrev pub kind_failure : ErrorKind → Failure
kind_failure BrokenPipe = Unread
kind_failure _ = Output

abbrev pub write_failure : IoError → Failure
write_failure error = kind_failure (error_kind error)

-- the failure is one of a write
abbrev pub IsOfWrite : Failure → Type 0
IsOfWrite failure = (error : IoError) × (failure ≡ write_failure error)

-- The failure that a denial becomes: out of memory is `Memory`, and a locked text is reported as a wrong password.
abbrev pub denial_failure : Denial → Failure
denial_failure (denial.Refused OutOfMemory) = Memory
denial_failure denial.Locked = Denied (denial.Refused PasswordInvalid)
denial_failure why = Denied why

-- The failure that an error of the file becomes: an unknown name is denied, and a locked name is reported as a wrong password.
abbrev pub file_failure : FileError → Failure
file_failure file.OutOfMemory = Memory
file_failure file.NameUnknown = Denied denial.NameUnknown
file_failure file.Locked = Denied (denial.Refused PasswordInvalid)
file_failure error = File error

-- the failure that an error of a list or an export becomes
abbrev pub lines_failure : LineError → Failure
lines_failure (lines.File error) = file_failure error
lines_failure lines.Breaks = BrokenLine
lines_failure (lines.Write error) = write_failure error

-- the failure that an error of an open becomes
abbrev pub open_failure : OpenError → Failure
open_failure no.OutOfMemory = Memory
open_failure error = Unopened error

-- ---- refusals that hide whether the file has the name

-- the failure says that the name is unknown, or that its text is locked or refuses the password
abbrev pub is_denial : Failure → Bool
is_denial (Denied why) = is_wrong why
is_denial _ = false

-- such a failure refuses a login, or a change of a password
abbrev pub IsDenialOf : Action → Failure → Type 0
IsDenialOf (OnFile path (Verify name)) failure = IsTrue (is_denial failure)
IsDenialOf (OnFile path (Edits Change name)) failure = IsTrue (is_denial failure)
IsDenialOf _ failure = ⊥

-- the line that is printed for each of these refusals
abbrev pub denial_line : List ℕ
denial_line = codes "argon2-passwd: name or password is invalid\n"
