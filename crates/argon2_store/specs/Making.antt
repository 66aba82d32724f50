-- The bytes of a file in which a database is still to be made.
use Rattle.std.specs.Prelude.{◌≡◌, ◌⊎◌, ◌<◌, ◌≤◌, ◌++◌, ℕ, List, All, length, replicate, take}
use Rattle.argon2_store.specs.declared.database.TheConstants.{FIRST}

-- the first page of a database with a log and without a table, in SQLite's format: the header, a leaf without cells, and zeros
unfoldable pub first_page : List ℕ
first_page = FIRST ++ replicate 3990 0

-- The bytes are at most a page of zeros, or a proper prefix of the first page. Nobody loses data if they are written over.
abbrev pub IsUnmade : List ℕ → Type 0
IsUnmade held = ((length held ≤ 4096) × All (λ b. b ≡ 0) held) ⊎ ((length held < 4096) × (held ≡ take (length held) first_page))
