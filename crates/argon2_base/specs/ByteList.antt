-- Byte lists of a fixed capacity, and the strict Base64 of their bytes.
use Rattle.std.specs.Prelude.{◌≡◌, ◌≢◌, ℕ, ◌+◌, ◌*◌, ◌/◌, ◌<◌, ◌≤◌, List, take, length, Result, Ok, Err}
use Rattle.argon2_base.specs.declared.byte_list.ByteList.{ByteList}
use Rattle.argon2_base.specs.Texts.{IsBytes, strict_base64}
use Rattle.argon2_base.specs.declared.error.B64Error.{B64Error}
use Rattle.argon2_base.specs.declared.error.B64Error.TheVariants.{InvalidEncoding, InvalidLength}

-- the bytes of a list
abbrev pub list_bytes : {N : ℕ} → ByteList N → List ℕ
list_bytes list = take list.len list.bytes

-- the length of the text of n bytes
abbrev pub base64_length : ℕ → ℕ
base64_length n = (4 * n + 2) / 3

-- why a text is refused, if the longest text has `longest` bytes. The length is checked first.
abbrev pub IsBase64Cause : ℕ → List ℕ → B64Error → Type 0
IsBase64Cause longest text InvalidLength = longest < length text
IsBase64Cause longest text InvalidEncoding =
    (length text ≤ longest) × ((bytes : List ℕ) → IsBytes bytes → text ≢ strict_base64 bytes)

-- the list that the text is of, or why there is none
abbrev pub IsListOfText : {N : ℕ} → List ℕ → Result (ByteList N) B64Error → Type 0
IsListOfText text (Ok list) = IsBytes (list_bytes list) × (text ≡ strict_base64 (list_bytes list))
IsListOfText {N} text (Err cause) = IsBase64Cause (base64_length N) text cause
