-- The texts that a row may have.
use Rattle.std.specs.Prelude.{◌≡◌, ◌==◌, ℕ, List, false}
use Rattle.std.specs.List.{list_any}
use Rattle.argon2_base.specs.PhcText.{Phc, IsPhcText}
use Rattle.argon2_schemes.specs.Locks.{without_lock}

-- the text is in the grammar of PHC texts, perhaps after `!`
abbrev pub IsStored : List ℕ → Type 0
IsStored text = (v : Phc) × IsPhcText (without_lock text) v

-- the text is one line
abbrev pub IsLine : List ℕ → Type 0
IsLine text = list_any (λ b. b == 10) text ≡ false
