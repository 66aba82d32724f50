-- Names, numbers and bytes in texts.
use Rattle.std.specs.Prelude.{ℕ, Bool, ◌&&◌, nat_le, nat_lt, if◌then◌else◌, List, codes, length, Option, Some, None, option_and_then, ◌^◌, ◌==◌, ◌||◌}
use Rattle.std.specs.List.{list_all}
use Rattle.std.specs.Fmt.{decimal}
use Rattle.std.specs.Str.{bytes_eq}
use Rattle.std.specs.Str.Parse.{digits_value}
use Rattle.base64.specs.Engines.{standard_no_pad}
use Rattle.base64.specs.GeneralPurpose.{decoded_of}
pub use Rattle.base64.specs.GeneralPurpose.{IsBytes}
use Rattle.base64.specs.Rfc4648.{encode_symbols}

-- ---- Base64 (RFC 4648, section 4) without padding

-- the 64 symbols, in the order of their values (RFC 4648, table 1)
abbrev pub alphabet : List ℕ
alphabet = codes "ABCDEFGHIJKLMNOPQRSTUVWXYZabcdefghijklmnopqrstuvwxyz0123456789+/"

-- the one text of bytes: no padding, and the unused last bits are zero
unfoldable pub strict_base64 : List ℕ → List ℕ
strict_base64 bytes = encode_symbols alphabet bytes

-- The bytes whose strict Base64 the text is, if they are at most `most`. `short_bytes_found` and `short_bytes_again` of
-- proofs/phc_lemmas/Base64Lemmas say so. The definition is the library's decoder, so that it computes.
abbrev pub short_bytes : ℕ → List ℕ → Option (List ℕ)
short_bytes most text = option_and_then
    (λ b. if nat_le (length b) most && list_all (λ x. nat_lt x 256) b then Some b else None)
    (decoded_of standard_no_pad text)

-- ---- decimals

-- the number up to 4294967295 whose decimal the text is
abbrev pub number_of : List ℕ → Option ℕ
number_of text =
    if bytes_eq (decimal (digits_value 10 text)) text && nat_lt (digits_value 10 text) (2 ^ 32)
    then Some (digits_value 10 text) else None

-- ---- names, identifiers and values: their characters and their lengths

-- a-z, 0-9 and `-`
abbrev pub is_name_char : ℕ → Bool
is_name_char c = (nat_le 97 c && nat_le c 122) || (nat_le 48 c && nat_le c 57) || (c == 45)

-- a-z, A-Z, 0-9, `/`, `+`, `.` and `-`
abbrev pub is_value_char : ℕ → Bool
is_value_char c = (nat_le 97 c && nat_le c 122) || (nat_le 65 c && nat_le c 90)
    || (nat_le 48 c && nat_le c 57) || (c == 47) || (c == 43) || (c == 46) || (c == 45)

-- a name, and an identifier: 1 to 32 characters
abbrev pub is_name : List ℕ → Bool
is_name s = nat_le 1 (length s) && nat_le (length s) 32 && list_all is_name_char s

-- a value: 1 to 64 characters
abbrev pub is_value : List ℕ → Bool
is_value s = nat_le 1 (length s) && nat_le (length s) 64 && list_all is_value_char s
