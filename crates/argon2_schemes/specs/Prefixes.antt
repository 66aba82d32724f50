-- How a text begins.
use Rattle.std.specs.Prelude.{ℕ, ◌==◌, ◌&&◌, ◌||◌, Bool, List, [], ◌∷◌, codes, drop, length, if◌then◌else◌}
use Rattle.std.specs.List.{list_any, starts_with}

abbrev pub begins : List ℕ → List ℕ → Bool
begins text prefix = starts_with (λ a b. a == b) text prefix

-- the text begins with one of these prefixes
abbrev pub begins_any : List (List ℕ) → List ℕ → Bool
begins_any prefixes text = list_any (begins text) prefixes

-- the text after the first of these prefixes that it begins with, or the whole text if it begins with none
abbrev pub after_any : List (List ℕ) → List ℕ → List ℕ
after_any [] text = text
after_any (prefix ∷ prefixes) text = if begins text prefix then drop (length prefix) text else after_any prefixes text

-- the text is this name, or begins with it and then one of these separators
abbrev pub is_named : List ℕ → List (List ℕ) → List ℕ → Bool
is_named name separators text = begins_any (name ∷ []) text
    && ((length (after_any (name ∷ []) text) == 0) || begins_any separators (after_any (name ∷ []) text))

-- the text after Django's word, or the whole text
abbrev pub after_django : List ℕ → List ℕ
after_django text = after_any (codes "argon2" ∷ []) text

-- the text without Django's word before a `$`, or without the scheme in braces of Dovecot and LDAP servers
abbrev pub without_prefix : List ℕ → List ℕ
without_prefix text = if begins_any (codes "$" ∷ []) (after_django text) then after_django text
    else after_any (codes "{argon2}" ∷ codes "{ARGON2}" ∷ codes "{ARGON2I}" ∷ codes "{ARGON2ID}" ∷ codes "{CRYPT}"
    ∷ codes "{crypt}" ∷ codes "{BLF-CRYPT}" ∷ codes "{MD5-CRYPT}" ∷ codes "{SHA256-CRYPT}" ∷ codes "{SHA512-CRYPT}" ∷ []) text
