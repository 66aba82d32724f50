-- What is found in a line.
use Rattle.std.specs.Prelude.{ℕ, zero, suc, ◌≡◌, ◌≢◌, ◌⊎◌, ◌<◌, ◌≤◌, ◌==◌, nat_lt, Bool, false, not, ◌&&◌, ◌||◌, List, [], ◌∷◌, codes, drop, get_or, length, take, if◌then◌else◌, Option, Some, None, is_none, option_map, unwrap_or, Result, Ok, Err}
use Rattle.std.specs.Char.{is_ascii_digit}
use Rattle.std.specs.List.{before_first, list_all, position_or_len}
use Rattle.std.specs.Io.BufRead.{strip_last}
use Rattle.std.specs.Str.{IsUtf8, bytes_eq}
use Rattle.argon2_schemes.specs.Prefixes.{after_any, without_prefix, begins_any}
use Rattle.argon2_schemes.specs.Schemes.{scheme_of}
use Rattle.argon2_base.specs.Error.{Fault, bad_encoding, outcome_of}
use Rattle.argon2_base.specs.PhcText.{Phc, IsPhcText}
use Rattle.argon2_base.specs.declared.error.password_hash.Error.{Error}
use Rattle.argon2.specs.Argon2.{keyid_bytes}
use Rattle.argon2.specs.Settings.{SettingsValue, algorithm_number, version_number}
use Rattle.argon2.specs.StoredTexts.{result_and_then, settings_value, shown_settings}
use Rattle.argon2_audit.specs.declared.claim.Claim.{Claim}
use Rattle.argon2_audit.specs.declared.claim.Claim.TheVariants.{Argon2, Other, Locked, Empty, Blank, Comment, NoField, Unknown}
use Rattle.argon2_audit.specs.declared.field.Field.{Field}
use Rattle.argon2_audit.specs.declared.finding.Class.{Class}
use Rattle.argon2_audit.specs.declared.finding.Class.TheVariants as class
use Rattle.argon2_audit.specs.declared.finding.Finding.{Finding}
use Rattle.argon2_audit.specs.declared.finding.Finding.TheVariants.{TooLong, Claimed, NotUtf8, Refused, Shown}
use Rattle.argon2_audit.specs.declared.entry.Entry.{Entry}
use Rattle.argon2_audit.specs.declared.limits.Limits.{Limits}

-- ---- fields

-- the line has a separator
abbrev pub is_cut : ℕ → List ℕ → Bool
is_cut separator line = nat_lt (position_or_len (λ byte. byte == separator) line) (length line)

-- the byte is a digit or a colon
abbrev pub is_number : ℕ → Bool
is_number byte = is_ascii_digit byte || (byte == 58)

-- numbers with colons between them, and then `$`
abbrev pub has_numbers : List ℕ → Bool
has_numbers text = is_cut 36 text && is_ascii_digit (get_or text 0 0)
    && list_all is_number (before_first (λ byte. byte == 36) text)

-- what Werkzeug writes before the numbers of a text
abbrev pub werkzeug : List (List ℕ)
werkzeug = codes "scrypt:" ∷ codes "pbkdf2:sha1:" ∷ codes "pbkdf2:sha256:" ∷ codes "pbkdf2:sha512:" ∷ []

-- a text of Werkzeug, which has colons
abbrev pub is_werkzeug : List ℕ → Bool
is_werkzeug line = begins_any werkzeug line && has_numbers (after_any werkzeug line)

-- the index at which a field with a quote at its start ends: the first separator after an even number of quotes
abbrev pub quoted_end : ℕ → Bool → List ℕ → ℕ
quoted_end separator is_odd [] = 0
quoted_end separator is_odd (byte ∷ rest) = if (byte == separator) && not is_odd then 0
    else suc (quoted_end separator (if byte == 34 then not is_odd else is_odd) rest)

-- the index at which the first field ends
abbrev pub field_end : ℕ → List ℕ → ℕ
field_end separator line = if begins_any ((34 ∷ []) ∷ []) line then quoted_end separator false line
    else position_or_len (λ byte. byte == separator) line

-- a field without the quotes around it
abbrev pub strip_quotes : List ℕ → List ℕ
strip_quotes field = if begins_any ((34 ∷ []) ∷ []) field then strip_last 34 (after_any ((34 ∷ []) ∷ []) field) else field

-- the field that has this number of fields before it
abbrev pub field_numbered : ℕ → ℕ → List ℕ → Option (List ℕ)
field_numbered zero separator line = Some (strip_quotes (take (field_end separator line) line))
field_numbered (suc before) separator line = if nat_lt (field_end separator line) (length line)
    then field_numbered before separator (drop (suc (field_end separator line)) line) else None

-- the field of a number; if none is asked for, the second field, or the whole line if it has one field or is a text of Werkzeug
abbrev pub field_by : Option ℕ → ℕ → List ℕ → Option (List ℕ)
field_by None separator line =
    Some (if is_werkzeug line then line else unwrap_or (field_numbered 1 separator line) (strip_quotes line))
field_by (Some before) separator line = field_numbered before separator line

-- the text in a field of a line, if the line has the field
abbrev pub field_in : Field → List ℕ → Option (List ℕ)
field_in field line = field_by field.before field.separator line

-- ---- what a line claims to store

-- a line without the byte order mark U+FEFF at its start and a carriage return at its end
abbrev pub trim_line : List ℕ → List ℕ
trim_line line = strip_last 13 (after_any ((239 ∷ 187 ∷ 191 ∷ []) ∷ []) line)

-- the byte is a space or a tab
abbrev pub is_space : ℕ → Bool
is_space byte = (byte == 32) || (byte == 9)

-- what a text claims to be, by its prefix
abbrev pub claim_of_text : List ℕ → Claim
claim_of_text text =
    if begins_any (codes "$argon2" ∷ []) text then Argon2
    else if length text == 0 then Empty
    else if begins_any (codes "!" ∷ codes "*" ∷ []) text then Locked
    else unwrap_or (option_map Other (scheme_of text)) Unknown

-- A line of spaces and tabs is blank, and a line that begins with `#` is a comment. Any other line claims what its field claims.
abbrev pub claim_of : Field → List ℕ → Claim
claim_of field line =
    if list_all is_space (trim_line line) then Blank
    else if begins_any (codes "#" ∷ []) (trim_line line) then Comment
    else unwrap_or (option_map (λ text. claim_of_text (without_prefix text)) (field_in field (trim_line line))) NoField

-- the text of a line, empty if it lacks the field
abbrev pub stored_in : Field → List ℕ → List ℕ
stored_in field line = unwrap_or (option_map without_prefix (field_in field (trim_line line))) []

-- ---- what a stored text shows

-- the settings of an entry, and the salt and the hash's length if the entry has them
abbrev pub entry_value : Entry → SettingsValue × Option (List ℕ) × Option ℕ
entry_value entry = (settings_value entry.settings, entry.salt, entry.hash_len)

-- the entry that a value shows, or the fault of its settings
abbrev pub shown_entry : Phc → Result (SettingsValue × Option (List ℕ) × Option ℕ) Fault
shown_entry v = result_and_then (shown_settings v) (λ settings. Ok (settings, v.salt, option_map length v.hash))

-- what reading an entry answers: what the value of the text shows, or `EncodingInvalid` if the text is outside the grammar
abbrev pub IsEntryAnswer : List ℕ → Result Entry Error → Type 0
IsEntryAnswer text r =
    ((v : Phc) × IsPhcText text v × (outcome_of entry_value r ≡ shown_entry v))
    ⊎ (((v : Phc) → IsPhcText text v → ⊥) × (outcome_of entry_value r ≡ Err bad_encoding))

-- ---- what is below limits

-- the value exists, and passes the test
abbrev pub some_passes : {A : Type 0} → (A → Bool) → Option A → Bool
some_passes test None = false
some_passes test (Some x) = test x

-- the salt of an entry is shorter than the limits ask for; a missing salt counts as 0 bytes
abbrev pub is_short : Limits → Entry → Bool
is_short limits entry = nat_lt (length (unwrap_or entry.salt [])) limits.salt_len

-- the limits require a key identifier other than the one of the entry
abbrev pub has_other_key : Limits → Entry → Bool
has_other_key limits entry = some_passes (λ required. not (bytes_eq (keyid_bytes required)
    (settings_value entry.settings).parameters.keyid)) limits.keyid

-- something of the entry is below the limits, or the limits require another algorithm or key identifier; a missing salt or hash
-- counts as 0 bytes
abbrev pub is_below_limits : Limits → Entry → Bool
is_below_limits limits entry = nat_lt (settings_value entry.settings).parameters.m_cost limits.m_cost
    || nat_lt (settings_value entry.settings).parameters.t_cost limits.t_cost
    || nat_lt (settings_value entry.settings).parameters.p_cost limits.p_cost || is_short limits entry
    || nat_lt (unwrap_or entry.hash_len 0) limits.hash_len
    || nat_lt (version_number entry.settings.version) limits.version
    || some_passes (λ required. not (algorithm_number required == algorithm_number entry.settings.algorithm))
    limits.algorithm || has_other_key limits entry

-- ---- what is found in a line

-- what is found in a text that claims to be Argon2's: it is not UTF-8, or reading it gives an error or an entry
abbrev pub IsTextFinding : List ℕ → Finding → Type 0
IsTextFinding text NotUtf8 = ¬ IsUtf8 text
IsTextFinding text (Refused error) = IsUtf8 text × IsEntryAnswer text (Err error)
IsTextFinding text (Shown entry) = IsUtf8 text × IsEntryAnswer text (Ok entry)
IsTextFinding text finding = ⊥

-- what is found in a line: it is too long, it claims to store something else, or what is found in its text
abbrev pub IsFinding : Field → List ℕ → Finding → Type 0
IsFinding field line TooLong = 4096 < length line
IsFinding field line (Claimed claim) = (length line ≤ 4096) × (claim_of field line ≡ claim) × (claim ≢ Argon2)
IsFinding field line finding =
    (length line ≤ 4096) × (claim_of field line ≡ Argon2) × IsTextFinding (stored_in field line) finding

-- the class of a finding
abbrev pub class_of : Limits → Finding → Class
class_of limits (Claimed (Other scheme)) = class.Other
class_of limits (Claimed Locked) = class.Locked
class_of limits (Claimed Empty) = class.Empty
class_of limits (Claimed Blank) = class.Blank
class_of limits (Claimed Comment) = class.Comment
class_of limits (Claimed NoField) = class.Unknown
class_of limits (Claimed Unknown) = class.Unknown
class_of limits (Shown entry) =
    if is_none entry.hash_len then class.NoHash else if is_below_limits limits entry then class.Below else class.Sound
class_of limits finding = class.Outside

-- the line has a text whose salt is shorter than the limits ask for, or missing
abbrev pub has_short_salt : Limits → Finding → Bool
has_short_salt limits (Shown entry) = is_short limits entry
has_short_salt limits finding = false

-- the line has a text with another key identifier than the limits ask for
abbrev pub shows_other_key : Limits → Finding → Bool
shows_other_key limits (Shown entry) = has_other_key limits entry
shows_other_key limits finding = false

-- the salt of the line's text, if there is one
abbrev pub salt_of : Finding → Option (List ℕ)
salt_of (Shown entry) = entry.salt
salt_of finding = None
