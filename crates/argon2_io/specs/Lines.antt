-- Lines that are written.
use Rattle.std.specs.Prelude.{◌≡◌, ◌++◌, ℕ, List, Option}
use Rattle.std.specs.Borrow.{Bor}
use Rattle.std.specs.Io.KnownBytes.{Appends}
use Rattle.std.specs.List.{flat_map}

-- the parts of a text, one after the other
abbrev pub joined : List (Bor (List ℕ)) → List ℕ
joined parts = flat_map (λ r. r.now) parts

-- known bytes grow by a prefix of the text, which may be all of it
abbrev pub AppendsPrefix : Option (List ℕ) → Option (List ℕ) → List ℕ → Type 0
AppendsPrefix old new text = (prefix rest : List ℕ) × (text ≡ prefix ++ rest) × Appends old new prefix
