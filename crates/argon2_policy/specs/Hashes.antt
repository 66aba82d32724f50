-- The hashes that a call asks for.
use Rattle.std.specs.Prelude.{ℕ, List, [], ◌∷◌, Option, Some, None, length}
use Rattle.argon2.specs.Settings.{SettingsValue}
use Rattle.argon2.specs.StoredTexts.{settings_value}
use Rattle.argon2_policy.specs.declared.hashes.Hash.{Hash}

-- a hash that was asked for: its settings, and the length of its password
pub record HashValue : Type 0 where
  pub settings : SettingsValue
  pub password_len : ℕ

-- the hash of a password under settings
abbrev pub hash_of : SettingsValue → List ℕ → HashValue
hash_of settings password = record { settings = settings; password_len = length password }

-- what a contract sees of one hash of the code
abbrev pub hash_value : Hash → HashValue
hash_value own = record { settings = settings_value own.settings; password_len = own.password_len }

-- what a contract sees of the two hashes that the code keeps
abbrev pub hashes_of : Option Hash → Option Hash → List HashValue
hashes_of None second = []
hashes_of (Some first) None = hash_value first ∷ []
hashes_of (Some first) (Some second) = hash_value first ∷ hash_value second ∷ []
