-- The key of a vault, and what opens it.
use Rattle.std.specs.Prelude.{◌≡◌, ◌⊎◌, ℕ, List, None, Result, Err, length, take, drop}
use Rattle.std.specs.Result.{result_err}
use Rattle.argon2.specs.Argon2.{argon2id_with, own_parameters}
use Rattle.argon2.specs.Rfc9106.{Context, tag_of}
use Rattle.argon2.specs.Settings.{SettingsValue, cost_parameters}
use Rattle.argon2.specs.Refusals.{length_refusal}
use Rattle.argon2.specs.base_declared.error.Error.{Error}
use Rattle.argon2.specs.base_declared.error.Error.TheVariants.{OutOfMemory}
use Rattle.argon2.specs.declared.context.Argon2.{Argon2}
use Rattle.argon2_example_uses.specs.declared.vault.Header.{Header}

-- the second recommended option (RFC 9106, section 4)
abbrev pub recommended : SettingsValue
recommended = argon2id_with (cost_parameters 65536 3 4 None)

-- the key of a passphrase and a salt: the first half of a tag of 64 bytes
abbrev pub key_of : Context → List ℕ → List ℕ → List ℕ
key_of ctx passphrase salt = take 32 (tag_of ctx passphrase salt 64)

-- the header's tag is the passphrase's: the other half
abbrev pub Opens : Context → List ℕ → Header → Type 0
Opens ctx passphrase header = header.tag ≡ drop 32 (tag_of ctx passphrase header.salt 64)

-- what deriving 64 bytes answers: no memory, or the first length that is refused, and Ok if none is
abbrev pub IsDerived : {X : Type 0} → Argon2 → List ℕ → List ℕ → Result X Error → Type 0
IsDerived argon2 passphrase salt result = (result ≡ Err OutOfMemory)
    ⊎ (result_err result ≡ length_refusal (own_parameters argon2).output_len 64 (length passphrase) (length salt))
