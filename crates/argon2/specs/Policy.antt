-- When a stored hash accepts a password under a policy, and whether it is renewed.
use Rattle.std.specs.Prelude.{◌≡◌, ◌⊎◌, ℕ, ◌≤◌, List, Option, IsSomeAnd, Ok}
use Rattle.argon2_base.specs.PhcText.{Phc}
use Rattle.argon2.specs.Bound.{AsksWithin, IsWithin}
use Rattle.argon2.specs.Settings.{SettingsValue}
use Rattle.argon2.specs.StoredTexts.{AcceptsBy, shown_settings}
use Rattle.argon2.specs.TextHashing.{IsFresh, IsTarget, TargetValue, tag_length}
use Rattle.argon2.specs.declared.bound.Bound.{Bound}
use Rattle.argon2.specs.declared.login.answers.Accepted.{Accepted}
use Rattle.argon2.specs.declared.login.answers.Accepted.TheVariants.{Current, Kept, Rehashed}

-- what passwords are hashed and verified under: a target, an old secret if one is given, and a bound
pub record PolicyValue : Type 0 where
  pub target : TargetValue
  pub old_secret : Option (List ℕ)
  pub bound : Bound

-- the target's hashes fit into texts, and the target asks for no more than the bound
pub record IsPolicy (policy : PolicyValue) : Type 0 where
  pub is_target : IsTarget policy.target
  pub within : IsWithin policy.bound policy.target.settings.parameters

-- ---- whether a stored hash stays

-- settings that differ from a target's at most by higher costs and a longer hash
pub record AreNoWeaker (target shown : SettingsValue) : Type 0 where
  pub algorithm : shown.algorithm ≡ target.algorithm
  pub version : shown.version ≡ target.version
  pub m_cost : target.parameters.m_cost ≤ shown.parameters.m_cost
  pub t_cost : target.parameters.t_cost ≤ shown.parameters.t_cost
  pub p_cost : target.parameters.p_cost ≤ shown.parameters.p_cost
  pub length : tag_length target ≤ tag_length shown
  pub keyid : shown.parameters.keyid ≡ target.parameters.keyid
  pub associated : shown.parameters.associated ≡ target.parameters.associated

-- the value shows settings that are no weaker than the target
abbrev pub IsNoWeaker : TargetValue → Phc → Type 0
IsNoWeaker target v = (shown : SettingsValue) × (shown_settings v ≡ Ok shown) × AreNoWeaker target.settings shown

-- ---- whether a password is accepted

-- the old secret accepts, and the target's does not
abbrev pub AcceptsByOld : PolicyValue → List ℕ → Phc → Type 0
AcceptsByOld policy password v = ¬ (AcceptsBy policy.target.secret password v)
    × IsSomeAnd policy.old_secret (λ secret. AcceptsBy secret password v)

-- the value asks for no more than the bound, and one of the secrets accepts the password
abbrev pub Admits : PolicyValue → List ℕ → Phc → Type 0
Admits policy password v = AsksWithin policy.bound v
    × (AcceptsBy policy.target.secret password v ⊎ AcceptsByOld policy password v)

-- the value accepts the password, and is weaker than the target, or only the old secret accepts
abbrev pub IsOutdated : PolicyValue → List ℕ → Phc → Type 0
IsOutdated policy password v =
    (AcceptsBy policy.target.secret password v × ¬ (IsNoWeaker policy.target v)) ⊎ AcceptsByOld policy password v

-- ---- a login

-- an accepted login by the value `v`, after which the name has the value `w`
abbrev pub LogsIn : PolicyValue → List ℕ → List ℕ → Phc → Accepted → Phc → Type 0
LogsIn policy password drawn v Current w = AsksWithin policy.bound v
    × AcceptsBy policy.target.secret password v × IsNoWeaker policy.target v × (w ≡ v)
LogsIn policy password drawn v Rehashed w =
    AsksWithin policy.bound v × IsOutdated policy password v × IsFresh policy.target password drawn w
LogsIn policy password drawn v Kept w =
    AsksWithin policy.bound v × IsOutdated policy password v × (w ≡ v)
