-- The lines of an import: names with texts.
use Rattle.std.specs.Prelude.{◌≡◌, ◌⊎◌, ◌||◌, ◌&&◌, not, codes, ℕ, suc, ◌==◌, ◌<◌, ◌≤◌, nat_lt, true, false, Bool, IsOk, IsTrue, List, [], ◌∷◌, length, if◌then◌else◌, Option, Some, None, Result, Ok, Err}
pub use Rattle.std.specs.Borrow.{Bor}
use Rattle.std.specs.List.{AllZip, after_first, before_first, list_any}
use Rattle.std.specs.Option.{is_some}
use Rattle.std.specs.Char.{is_control}
use Rattle.std.specs.BTreeSet.{BTreeSet, contains_by}
use Rattle.std.specs.Cmp.Lexicographic.{slice_cmp}
use Rattle.std.specs.Ordering.{nat_cmp}
use Rattle.std.specs.Str.{bytes_eq, chars, is_utf8}
use Rattle.std.specs.Str.Lines.{lines}
use Rattle.std.specs.FinMap.{get}
pub use Rattle.argon2_base.specs.PhcText.{Phc, IsPhcText}
use Rattle.argon2.specs.StoredTexts.{shown_settings}
use Rattle.argon2_schemes.specs.Prefixes.{after_any, begins_any, without_prefix}
pub use Rattle.argon2_schemes.specs.Schemes.{scheme_of}
use Rattle.argon2_schemes.specs.Locks.{without_lock}
use Rattle.argon2_rows.specs.RowTexts.{IsLine, IsStored}
use Rattle.argon2_rows.specs.Names.{Texts, entry_of}
use Rattle.argon2_rows.specs.Lines.{breaks_line}
use Rattle.argon2_rows.specs.declared.view.View.TheVariants as views
pub use Rattle.argon2_rows.specs.declared.text.StoredText.{StoredText}
use Rattle.argon2_passwd.specs.declared.failure.Failure.{Failure}
pub use Rattle.argon2_passwd.specs.declared.failure.Flaw.{Flaw}
pub use Rattle.argon2_passwd.specs.declared.failure.Flaw.TheVariants.{TextLength, NoText, NameLength, Character, Mark, Taken}
use Rattle.argon2_passwd.specs.declared.failure.Failure.TheVariants.{Line as AtLine}

-- the two parts of a line, as the code borrows them
abbrev pub parts_now : Bor (List ℕ) × Bor (List ℕ) → List ℕ × List ℕ
parts_now pair = (pair.0.now, pair.1.now)

-- the name before the first colon of a line and the text after it: without a colon no text, and without UTF-8 neither
abbrev pub parts_of : List ℕ → List ℕ × List ℕ
parts_of line = if is_utf8 line then (before_first (λ b. b == 58) line, after_first (λ b. b == 58) line) else ([], [])

-- the text says a value with valid settings of Argon2
abbrev pub IsArgon2 : List ℕ → Type 0
IsArgon2 text = (v : Phc) × IsPhcText text v × IsOk (shown_settings v)

-- The text has a colon, but is none of Werkzeug, whose texts have colons. Another program has written a further field there.
abbrev pub has_field : List ℕ → Bool
has_field text = list_any (λ b. b == 58) text && not (begins_any (codes "scrypt:" ∷ codes "pbkdf2:" ∷ []) text)

-- the text, locked or not, begins as a text of another scheme, and has no further field
abbrev pub has_scheme : List ℕ → Bool
has_scheme text = is_some (scheme_of (without_lock text)) && not (has_field (without_lock text))

-- An import adds this text: one of Argon2, locked or not. With `any_text` it also adds any text in the grammar or of another
-- scheme.
abbrev pub MayBeAdded : Bool → List ℕ → Type 0
MayBeAdded false text = IsArgon2 (without_lock text)
MayBeAdded true text = IsStored text ⊎ IsTrue (has_scheme text)

-- the name has a control character
abbrev pub has_control : List ℕ → Bool
has_control name = list_any is_control (chars name)

-- a byte order mark
abbrev pub mark : List ℕ
mark = 239 ∷ 187 ∷ 191 ∷ []

-- why a name may not be added
abbrev pub name_flaw : List ℕ → Option Flaw
name_flaw name = if (length name == 0) || nat_lt 4096 (length name) then Some NameLength
    else if breaks_line views.Export name || has_control name then Some Character
    else if begins_any (mark ∷ []) name then Some Mark else None

-- the name of a line, and its text without what other programs put before it, if these may be added
abbrev pub IsEntry : Bool → List ℕ → List ℕ × List ℕ → Type 0
IsEntry any_text line e = (e.0 ≡ (parts_of line).0) × (e.1 ≡ without_prefix (parts_of line).1)
    × (length e.1 ≤ 4096) × MayBeAdded any_text e.1 × (name_flaw e.0 ≡ None)

-- the text is one line, of another scheme
abbrev pub IsForeign : List ℕ → Type 0
IsForeign text = IsLine text × IsTrue (has_scheme text)

-- An import does not add this text: it is outside the grammar, or says a value without valid settings of Argon2. With `any_text`
-- the text is outside the grammar and of no other scheme.
abbrev pub MayNotBeAdded : Bool → List ℕ → Type 0
MayNotBeAdded false text = ¬ (IsStored text) ⊎ ((v : Phc) × IsPhcText (without_lock text) v × ¬ (IsOk (shown_settings v)))
MayNotBeAdded true text = ¬ (IsStored text) × ¬ (IsForeign text)

-- the input without a byte order mark at its beginning
abbrev pub unmarked : List ℕ → List ℕ
unmarked input = after_any (mark ∷ []) input

-- what a line says: a name and a text that may be added, or why it has none
abbrev pub LineValue : Type 0
LineValue = Result (List ℕ × List ℕ) Flaw

-- what the code read from a line
abbrev pub entry_or_flaw : Result (Bor (List ℕ) × StoredText) Flaw → LineValue
entry_or_flaw (Ok e) = Ok (entry_of e)
entry_or_flaw (Err why) = Err why

-- why a line may not be added: first because of its text, then because of its name
abbrev pub IsFlaw : Bool → List ℕ → List ℕ → Flaw → Type 0
IsFlaw any_text name text TextLength = 4096 < length text
IsFlaw any_text name text NoText = (length text ≤ 4096) × MayNotBeAdded any_text text
IsFlaw any_text name text why = (length text ≤ 4096) × MayBeAdded any_text text × (name_flaw name ≡ Some why)

-- what is read from a line is its entry, or why it may not be added
abbrev pub IsEntryOrFlaw : Bool → List ℕ → LineValue → Type 0
IsEntryOrFlaw any_text line (Ok e) = IsEntry any_text line e
IsEntryOrFlaw any_text line (Err why) = IsFlaw any_text (parts_of line).0 (without_prefix (parts_of line).1) why

-- `said` is what the lines of the input say, in order
abbrev pub AreSaid : Bool → List ℕ → List LineValue → Type 0
AreSaid any_text input said = AllZip (IsEntryOrFlaw any_text) (lines (unmarked input)) said

-- the line, or the flaw that its name is taken
abbrev pub new_line : (List ℕ → Bool) → LineValue → LineValue
new_line is_taken (Ok e) = if is_taken e.0 then Err Taken else Ok e
new_line is_taken (Err why) = Err why

-- the line has an entry with this name
abbrev pub line_has_name : LineValue → List ℕ → Bool
line_has_name (Ok e) name = bytes_eq e.0 name
line_has_name (Err why) name = false

-- each line, or the flaw that its name is taken, before or by an earlier line
abbrev pub new_lines : (List ℕ → Bool) → List LineValue → List LineValue
new_lines is_taken [] = []
new_lines is_taken (line ∷ ls) =
    new_line is_taken line ∷ new_lines (λ name. line_has_name line name || is_taken name) ls

-- the set has this name
abbrev pub has_name : BTreeSet (Bor (List ℕ)) → List ℕ → Bool
has_name names name = contains_by (λ k. slice_cmp nat_cmp name k.now) names

-- the name has a text
abbrev pub has_text : Texts → List ℕ → Bool
has_text names name = is_some (get names name)

-- the entries of the lines that have one
abbrev pub entries_in : List LineValue → List (List ℕ × List ℕ)
entries_in [] = []
entries_in (Ok e ∷ ls) = e ∷ entries_in ls
entries_in (Err why ∷ ls) = entries_in ls

-- the lines without an entry, each with its number and its flaw; the first line has the number `k`
abbrev pub flaws_from : ℕ → List LineValue → List (ℕ × Flaw)
flaws_from k [] = []
flaws_from k (Ok e ∷ ls) = flaws_from (suc k) ls
flaws_from k (Err why ∷ ls) = (k, why) ∷ flaws_from (suc k) ls

-- the failure has the number and the flaw of the first of these lines
abbrev pub ReportsFirst : List (ℕ × Flaw) → Failure → Type 0
ReportsFirst [] failure = ⊥
ReportsFirst ((number, why) ∷ more) failure = failure ≡ AtLine number why
