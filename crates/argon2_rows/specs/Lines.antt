-- The lines that are written of names with their texts.
use Rattle.std.specs.Prelude.{◌≡◌, ◌==◌, ◌||◌, ℕ, ◌+◌, ◌/◌, ◌%◌, nat_lt, if◌then◌else◌, Bool, true, false, List, [], ◌∷◌, ◌++◌, All, Option}
pub use Rattle.std.specs.Io.KnownBytes.{Appends, Keeps}
use Rattle.std.specs.Char.{encode_utf8, is_control}
pub use Rattle.std.specs.List.{flat_map, list_any}
use Rattle.std.specs.Str.{chars}
pub use Rattle.argon2_io.specs.Lines.{AppendsPrefix}
use Rattle.argon2_rows.specs.Names.{Texts, entries}
use Rattle.argon2_rows.specs.declared.view.View.{View}
use Rattle.argon2_rows.specs.declared.view.View.TheVariants.{Names, Export}
pub use Rattle.argon2_rows.specs.declared.view.Written.{Written}
use Rattle.argon2_rows.specs.declared.view.Written.TheVariants as written
pub use Rattle.argon2_rows.specs.declared.view.Written.TheVariants.{Breaks, Failed}

-- the hexadecimal digit of a number
abbrev pub digit : ℕ → ℕ
digit n = if nat_lt n 10 then 48 + n else 87 + n

-- how a list shows a character: a control character as `\x` and the two digits of its code, and `\` twice
abbrev pub shown_char : ℕ → List ℕ
shown_char c =
    if is_control c then 92 ∷ 120 ∷ digit (c / 16) ∷ digit (c % 16) ∷ []
    else if c == 92 then 92 ∷ 92 ∷ [] else encode_utf8 c

-- how a list shows a name
abbrev pub shown : List ℕ → List ℕ
shown name = flat_map shown_char (chars name)

-- the line of a name with its text
abbrev pub line : View → List ℕ × List ℕ → List ℕ
line Names e = shown e.0 ++ 10 ∷ []
line Export e = e.0 ++ 58 ∷ e.1 ++ 10 ∷ []

-- the line of the name would read as the line of another name: the name has a line break or a colon
abbrev pub breaks_line : View → List ℕ → Bool
breaks_line Names name = false
breaks_line Export name = list_any (λ b. b == 10) name || list_any (λ b. b == 58) name

-- none of the names breaks its line
abbrev pub AreFitLines : View → List (List ℕ × List ℕ) → Type 0
AreFitLines view es = All (λ e. breaks_line view e.0 ≡ false) es

-- The output after the line of a name was to be written. A name that breaks its line writes nothing; after a failure a prefix of
-- the line is written.
abbrev pub IsLineOf : View → List ℕ × List ℕ → Option (List ℕ) → Option (List ℕ) → Written → Type 0
IsLineOf view e old new written.All = Appends old new (line view e) × (breaks_line view e.0 ≡ false)
IsLineOf view e old new Breaks = Keeps old new × (breaks_line view e.0 ≡ true)
IsLineOf view e old new (Failed why) = AppendsPrefix old new (line view e) × (breaks_line view e.0 ≡ false)

-- a prefix of the lines of these names is written, at most up to the first name that breaks its line
abbrev pub AreCutLines : View → List (List ℕ × List ℕ) → Option (List ℕ) → Option (List ℕ) → Type 0
AreCutLines view es old new = (before after : List (List ℕ × List ℕ))
    × (es ≡ before ++ after) × AreFitLines view before × AppendsPrefix old new (flat_map (line view) before)

-- The lines of these names are written, or only the lines before the first name that breaks its line. If writing failed, a prefix
-- of these lines is written.
abbrev pub AreLinesOf : View → List (List ℕ × List ℕ) → Option (List ℕ) → Option (List ℕ) → Written → Type 0
AreLinesOf view es old new written.All = Appends old new (flat_map (line view) es) × AreFitLines view es
AreLinesOf view es old new Breaks = (before after : List (List ℕ × List ℕ)) × (e : List ℕ × List ℕ)
    × (es ≡ before ++ e ∷ after) × AreFitLines view before × (breaks_line view e.0 ≡ true)
    × Appends old new (flat_map (line view) before)
AreLinesOf view es old new (Failed why) = AreCutLines view es old new

-- the same, of the lines of all names
abbrev pub AreWritten : View → Texts → Option (List ℕ) → Option (List ℕ) → Written → Type 0
AreWritten view names = AreLinesOf view (entries names)

-- a prefix of the lines of all names is written, at most up to the first name that breaks its line
abbrev pub AreCut : View → Texts → Option (List ℕ) → Option (List ℕ) → Type 0
AreCut view names = AreCutLines view (entries names)
