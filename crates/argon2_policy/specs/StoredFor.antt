-- What is stored for a name.
use Rattle.std.specs.Prelude.{◌≡◌, ◌⊎◌, ℕ, List, false, Option, Some, None, IsSomeAnd, IsTrue}
use Rattle.argon2_base.specs.PhcText.{Phc, IsPhcText}
use Rattle.argon2_base.specs.declared.error.password_hash.Error.TheVariants.{EncodingInvalid}
use Rattle.argon2.specs.NamedTexts.{IsText}
use Rattle.argon2_schemes.specs.Locks.{is_locked}
use Rattle.argon2_schemes.specs.Schemes.{scheme_of}
use Rattle.argon2_policy.specs.Denials.{Denial, Locked, NameUnknown, OtherScheme, Refused}

-- the text says this value: it is not locked, not of another scheme, and in the grammar
abbrev pub SaysValue : Option (List ℕ) → Phc → Type 0
SaysValue None v = ⊥
SaysValue (Some text) v = (is_locked text ≡ false) × (scheme_of text ≡ None) × IsPhcText text v

-- why no password opens what is stored: nothing is, or the text is locked, of another scheme or outside the grammar
abbrev pub IsShut : Option (List ℕ) → Denial → Type 0
IsShut None why = why ≡ NameUnknown
IsShut (Some text) why = (IsTrue (is_locked text) × (why ≡ Locked))
    ⊎ ((is_locked text ≡ false) × IsSomeAnd (scheme_of text) (λ scheme. why ≡ OtherScheme scheme))
    ⊎ ((is_locked text ≡ false) × (scheme_of text ≡ None) × ¬ (IsText text) × (why ≡ Refused EncodingInvalid))
