-- The errors of accounts.
use Rattle.std.specs.Prelude.{ℕ, List, Bool, codes, true, false}
use Rattle.argon2_base.specs.declared.error.password_hash.Error.TheVariants as hash
use Rattle.argon2_policy.specs.Denials.{denial_text}
pub use Rattle.argon2_policy.specs.declared.denial.Denial.{Denial}
pub use Rattle.argon2_policy.specs.declared.denial.Denial.TheVariants.{NameUnknown, Locked, Refused}
use Rattle.argon2_store.specs.Errors.{file_error_text, is_refusal}
pub use Rattle.argon2_store.specs.declared.error.FileError.{FileError}
use Rattle.argon2_store.specs.declared.error.FileError.TheVariants as file
pub use Rattle.argon2_accounts.specs.declared.error.AccountError.{AccountError}
pub use Rattle.argon2_accounts.specs.declared.error.AccountError.TheVariants.{Denied, NameTooLong, OutOfMemory, File}

-- the error that a denial by the policy becomes
abbrev pub of_denial : Denial → AccountError
of_denial (Refused hash.OutOfMemory) = OutOfMemory
of_denial why = Denied why

-- the error that an error of the file becomes: an unknown or locked name is denied, as it is by the policy
abbrev pub of_file : FileError → AccountError
of_file file.NameUnknown = Denied NameUnknown
of_file file.Locked = Denied Locked
of_file file.OutOfMemory = OutOfMemory
of_file e = File e

-- the call is refused because of the name, its text or the password
abbrev pub is_account_refusal : AccountError → Bool
is_account_refusal (Denied why) = true
is_account_refusal NameTooLong = true
is_account_refusal OutOfMemory = false
is_account_refusal (File e) = is_refusal e

-- what an error prints
abbrev pub account_error_text : AccountError → List ℕ
account_error_text (Denied why) = denial_text why
account_error_text NameTooLong = codes "name is too long"
account_error_text OutOfMemory = codes "out of memory"
account_error_text (File e) = file_error_text e
