-- How a tree of rows holds names with their texts.
use Rattle.std.specs.Prelude.{◌≡◌, ℕ, List, [], ◌∷◌, map, Some, None, IsUtf8}
pub use Rattle.std.specs.declared.cmp.Ordering.TheVariants.{Less}
pub use Rattle.sqlite_value.specs.declared.value.Value.TheVariants.{Text}
pub use Rattle.sqlite_value.specs.Order.{Row}
use Rattle.argon2_rows.specs.RowTexts.{IsLine}
use Rattle.argon2_rows.specs.Names.{Texts, slice_cmp, entries, get, nat_cmp}
use Rattle.argon2_rows.specs.declared.rows.Found.{Found}
pub use Rattle.argon2_rows.specs.declared.rows.Found.TheVariants.{End, Later, Name}

-- the row of a name with its text
abbrev pub row_of : List ℕ × List ℕ → Row
row_of e = Text e.0 ∷ Text e.1 ∷ []

-- the rows of names with their texts, in the order of the names' bytes
abbrev pub rows_of : Texts → List Row
rows_of names = map row_of (entries names)

-- each name and each text is UTF-8
abbrev pub AreTexts : Texts → Type 0
AreTexts names = (name text : List ℕ) → get names name ≡ Some text → IsUtf8 name × IsUtf8 text

-- no name that comes after this name has a text
abbrev pub HasNoneAfter : Texts → List ℕ → Type 0
HasNoneAfter names name = (later : List ℕ) → slice_cmp nat_cmp name later ≡ Less → get names later ≡ None

-- neither this name nor a later name has a text
abbrev pub IsAfterAll : Texts → List ℕ → Type 0
IsAfterAll names name = (get names name ≡ None) × HasNoneAfter names name

-- what a seek by the name finds: the row of the name with its text, a later row, or no row
abbrev pub IsFoundAs : Texts → List ℕ → Found → Row → Type 0
IsFoundAs names name Name row = (text : List ℕ) × (get names name ≡ Some text) × (row ≡ row_of (name, text))
IsFoundAs names name Later row = get names name ≡ None
IsFoundAs names name End row = IsAfterAll names name

-- each text is one line
abbrev pub AreLines : Texts → Type 0
AreLines names = (name text : List ℕ) → get names name ≡ Some text → IsLine text

-- the row has a name and a text of one line, both UTF-8
abbrev pub IsAccount : Row → Type 0
IsAccount row = (e : List ℕ × List ℕ) × IsUtf8 e.0 × IsUtf8 e.1 × IsLine e.1 × (row ≡ row_of e)
