-- What callers see of a policy, and what its calls do with a stored text. The file passes on the words that contracts share.
use Rattle.std.specs.Prelude.{◌≡◌, ◌≢◌, ◌⊎◌, ℕ, ◌≤◌, ◌<◌, List, [], ◌∷◌, if◌then◌else◌, Option, None, IsSomeAnd, Result, Ok, Err, take}
use Rattle.std.specs.Option.{is_some, option_copied}
pub use Rattle.rand_core.specs.Stream.{Stream}
use Rattle.argon2_base.specs.Error.{Fault}
pub use Rattle.argon2_base.specs.PhcText.{Phc}
pub use Rattle.argon2_base.specs.declared.error.password_hash.Error.{Error}
pub use Rattle.argon2_base.specs.PhcFields.{phc_of, text_of}
pub use Rattle.argon2_base.specs.declared.error.password_hash.Error.TheVariants.{OutOfMemory, OutputSize, PasswordInvalid}
pub use Rattle.argon2.specs.Bound.{AsksWithin, IsHashRefusal, IsWithin, IsStoredRefusal}
pub use Rattle.argon2.specs.Policy.{AcceptsByOld, Admits, AreNoWeaker, IsNoWeaker, IsOutdated, IsPolicy, LogsIn, PolicyValue}
pub use Rattle.argon2.specs.TextHashing.{IsHashingRefusal, IsFresh, IsTarget, TargetValue, after_salt, drawn_salt, tag_length, target_of}
pub use Rattle.argon2.specs.Refusals.{max_len}
pub use Rattle.argon2.specs.Settings.{SettingsValue}
pub use Rattle.argon2.specs.NamedTexts.{stream_after, value_after}
pub use Rattle.argon2.specs.StoredTexts.{AcceptsBy, IsVerifyAnswer, StoredValue, settings_value, shown_settings, stored_of}
pub use Rattle.argon2.specs.declared.bound.Bound.{Bound}
pub use Rattle.argon2.specs.declared.bound.BoundError.{BoundError}
use Rattle.argon2.specs.declared.bound.BoundError.TheVariants as bound
use Rattle.argon2.specs.declared.login.answers.Accepted.{Accepted}
pub use Rattle.argon2.specs.declared.login.answers.Accepted.TheVariants.{Current, Kept, Rehashed}
pub use Rattle.argon2_policy.specs.Denials.{Denial, Refused, TooExpensive}
pub use Rattle.argon2_policy.specs.Hashes.{HashValue, hash_of}
pub use Rattle.argon2_policy.specs.Renewals.{accepted_by, accepted_of, fresh_of, renewal_of}
pub use Rattle.argon2_policy.specs.StoredFor.{IsShut, SaysValue}
use Rattle.argon2_policy.specs.declared.policy.Age.{Age}
pub use Rattle.argon2_policy.specs.declared.policy.Age.TheVariants.{Outdated, Recent}
use Rattle.argon2_policy.specs.declared.policy.Policy.{Policy}

-- what a contract sees of the code's policy
abbrev pub policy_value : Policy → PolicyValue
policy_value own =
    record { target = target_of own.target; old_secret = option_copied own.old; bound = own.bound }

-- why there is no policy of a target and a bound
abbrev pub IsPolicyRefusal : TargetValue → Bound → BoundError → Type 0
IsPolicyRefusal target most (bound.Refused e) = (e ≡ OutputSize) × (64 < tag_length target.settings)
IsPolicyRefusal target most bound.TooExpensive =
    (tag_length target.settings ≤ 64) × ¬ (IsWithin most target.settings.parameters)

-- a policy of a target and a bound, without an old secret, or why there is none
abbrev pub IsNewPolicy : TargetValue → Bound → Result Policy BoundError → Type 0
IsNewPolicy target bound (Ok own) = IsPolicy (policy_value own)
    × (policy_value own ≡ record { target = target; old_secret = None; bound = bound })
IsNewPolicy target bound (Err e) = IsPolicyRefusal target bound e

-- Why no secret accepts. Under the target's secret verifying fails with this error, which is not a wrong password unless there is
-- no old secret. Or that error is a wrong password, and under the old secret verifying fails with this error.
abbrev pub IsSecretsRefusal : PolicyValue → List ℕ → Phc → Error → Type 0
IsSecretsRefusal policy password v e = let first = IsVerifyAnswer policy.target.secret password v in
    (first (Err e) × ((e ≢ PasswordInvalid) ⊎ (policy.old_secret ≡ None)))
    ⊎ (first (Err PasswordInvalid)
    × IsSomeAnd policy.old_secret (λ secret. IsVerifyAnswer secret password v (Err e)))

-- ---- what is stored for a name

-- what is stored accepts the password within the bound
abbrev pub AdmitsStored : PolicyValue → List ℕ → Option (List ℕ) → Type 0
AdmitsStored policy password stored = (v : Phc) × SaysValue stored v × Admits policy password v

-- why a value refuses a password: the value can't be verified, or is above the bound, or no secret accepts
abbrev pub IsDenial : PolicyValue → List ℕ → Phc → Denial → Type 0
IsDenial policy password v TooExpensive = IsHashRefusal policy.bound v bound.TooExpensive
IsDenial policy password v (Refused e) = IsStoredRefusal policy.bound v (bound.Refused e)
    ⊎ (AsksWithin policy.bound v × IsSecretsRefusal policy password v e)
IsDenial policy password v _ = ⊥

-- why what is stored refuses a password
abbrev pub Denies : PolicyValue → List ℕ → Option (List ℕ) → Denial → Type 0
Denies policy password stored why = IsShut stored why ⊎ ((v : Phc) × SaysValue stored v × IsDenial policy password v why)

-- how a password is hashed that is wrong for a text of these settings: once, and once more under an old secret
abbrev pub hashes_of_wrong : PolicyValue → SettingsValue → List ℕ → List HashValue
hashes_of_wrong policy settings password = let hash = hash_of settings password in
    if is_some policy.old_secret then hash ∷ hash ∷ [] else hash ∷ []

-- the settings of a text that can be verified, or the target's
abbrev pub settings_or_target : TargetValue → Result StoredValue Fault → SettingsValue
settings_or_target target (Ok stored) = stored.settings
settings_or_target target (Err fault) = target.settings

-- The hashes that are asked for if a password is refused for this reason. They are the hashes of a wrong password. There are none
-- if the text is above the bound, and there may be fewer if memory is refused.
abbrev pub AsksFor : List HashValue → Denial → List HashValue → Type 0
AsksFor wrong TooExpensive hashes = hashes ≡ []
AsksFor wrong why hashes = (hashes ≡ wrong) ⊎ ((why ≡ Refused OutOfMemory) × ((n : ℕ) × (hashes ≡ take n wrong)))

-- the hashes that are asked for if what is stored refuses the password: unless it can be verified, under the target's settings
abbrev pub HashesRefused : PolicyValue → List ℕ → Option (List ℕ) → Denial → List HashValue → Type 0
HashesRefused policy password stored why hashes =
    (IsShut stored why × (hashes ≡ hashes_of_wrong policy policy.target.settings password))
    ⊎ ((v : Phc) × SaysValue stored v
    × AsksFor (hashes_of_wrong policy (settings_or_target policy.target (stored_of v)) password) why hashes)

-- ---- what calls answer, and what they make of a value

-- whether a value that the target's secret accepts stays
abbrev pub IsAged : TargetValue → Phc → Age → Type 0
IsAged target v Recent = IsNoWeaker target v
IsAged target v Outdated = ¬ (IsNoWeaker target v)

-- a value accepts a password, and stays or is to be made anew
abbrev pub IsFound : PolicyValue → List ℕ → Phc → Age → Type 0
IsFound policy password v Recent = AcceptsBy policy.target.secret password v × IsNoWeaker policy.target v
IsFound policy password v Outdated = IsOutdated policy password v

-- why no text is made of a password
abbrev pub IsMakingRefusal : List ℕ → Denial → Type 0
IsMakingRefusal password (Refused e) = IsHashingRefusal password e
IsMakingRefusal password _ = ⊥

-- Why a password is not changed, and what the generator has left then. The old password is verified first. 16 bytes are drawn
-- after it is accepted.
abbrev pub IsChangeRefusal : PolicyValue → List ℕ → List ℕ → Option (List ℕ) → Stream → Stream → Denial → Type 0
IsChangeRefusal policy old password stored before after why = (Denies policy old stored why × (after ≡ before))
    ⊎ (AdmitsStored policy old stored × IsMakingRefusal password why × (after ≡ after_salt before))
