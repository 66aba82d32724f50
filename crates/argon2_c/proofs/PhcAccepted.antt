-- When a text that a bound admits accepts a password.
use Rattle.std.proofs.Common.{◌≡◌, ℕ, ◌≤◌, List, length, Ok, inl, refl, le-leb}
use Rattle.std.proofs.lemmas.Slice.Eq.{bytes_eq-Decides}
use Rattle.argon2_base.specs.PhcText.{Phc}
use Rattle.argon2.specs.Argon2.{context_with}
use Rattle.argon2.specs.Refusals.{max_len}
use Rattle.argon2.specs.Rfc9106.{tag_of}
use Rattle.argon2.specs.StoredTexts.{AcceptsBy, StoredValue, stored_of}
use Rattle.argon2.proofs.password_hash_lemmas.Verified.{exact}

-- the hash is the password's tag under the secret
abbrev pub IsTag : StoredValue → List ℕ → List ℕ → Type 0
IsTag stored secret password =
    stored.hash ≡ tag_of (context_with stored.settings secret) password stored.salt (length stored.hash)

-- a value accepts a password if its hash is the password's tag
pub AcceptsBy-tag : (secret password : List ℕ) (v : Phc) (stored : StoredValue) → stored_of v ≡ Ok stored
    → length password ≤ max_len → IsTag stored secret password → AcceptsBy secret password v
AcceptsBy-tag secret password v stored is most same =
    let fits = le-leb (length password) 4294967295 most in
    let equal = (bytes_eq-Decides _ _).1 same in
    exact secret password v (Ok tt) (inl (rw (is, fits, equal) refl))

-- what a value that accepts is verified by
abbrev pub stored_by : {secret password : List ℕ} {v : Phc} → AcceptsBy secret password v → StoredValue
stored_by a = record { settings = a.settings; salt = a.salt; hash = a.hash }

-- `stored_of` of a value that accepts a password is what the value is verified by
pub stored_of-accepting : {secret password : List ℕ} {v : Phc} (a : AcceptsBy secret password v) → stored_of v ≡ Ok (stored_by a)
stored_of-accepting a = rw (a.has_salt, a.has_hash, a.has_parameters, a.has_algorithm, a.has_version) refl
