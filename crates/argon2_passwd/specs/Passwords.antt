-- Passwords. Each password is a line of the input.
use Rattle.std.specs.Prelude.{◌≡◌, ◌≢◌, ◌⊎◌, ℕ, nat_le, List, [], ◌∷◌, length, if◌then◌else◌, Option, Some, None, IfSome}
use Rattle.std.specs.Io.BufRead.{ends_with_byte, strip_last, take_through}
use Rattle.argon2_passwd.specs.Failures.{status_of}
use Rattle.argon2_passwd.specs.declared.failure.Failure.{Failure}
use Rattle.argon2_passwd.specs.declared.failure.Failure.TheVariants.{NoPassword, LongPassword, EmptyPassword}

-- a line without its LF or CR LF
abbrev pub line_of : List ℕ → List ℕ
line_of line = if ends_with_byte 10 line then strip_last 13 (strip_last 10 line) else line

-- the password, if it has at most 4096 bytes
abbrev pub unless_long : List ℕ → Option (List ℕ)
unless_long password = if nat_le (length password) 4096 then Some password else None

-- the password on the first line, if the input has a line, and the password at most 4096 bytes
abbrev pub password_of : List ℕ → Option (List ℕ)
password_of [] = None
password_of (byte ∷ rest) = unless_long (line_of (take_through 10 (byte ∷ rest)))

-- why no password is read: the input, if it is known, is empty or has too long a line, or reading fails
abbrev pub IsUnread : Option (List ℕ) → Failure → Type 0
IsUnread input NoPassword = IfSome input (λ bytes. bytes ≡ [])
IsUnread input LongPassword = IfSome input (λ bytes. (password_of bytes ≡ None) × (bytes ≢ []))
IsUnread input failure = status_of failure ≡ 3

-- why no new password is read: as `IsUnread`, or the password is empty
abbrev pub IsNotNew : Option (List ℕ) → Failure → Type 0
IsNotNew input failure = IsUnread input failure
    ⊎ ((failure ≡ EmptyPassword) × IfSome input (λ bytes. password_of bytes ≡ Some []))
