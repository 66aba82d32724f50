-- What a text of the grammar shows to a C caller.
use Rattle.std.specs.Prelude.{◌≡◌, ℕ, ◌+◌, ◌==◌, ℤ, if◌then◌else◌, List, [], ◌++◌, ◌-◌, length, replicate, unwrap_or}
use Rattle.argon2_base.specs.PhcText.{Phc, fields_text, field, params_text, version_text}
use Rattle.argon2.specs.Settings.{SettingsValue, algorithm_number, version_number}
use Rattle.argon2.specs.StoredTexts.{shown_settings}
use Rattle.argon2_c.specs.declared.code.TheConstants.{OK}
use Rattle.argon2_c.specs.declared.phc.shown.PhcShown.{PhcShown}
use Rattle.argon2_c.specs.PhcFaults.{code_of}

-- n is the number of the bytes, and `room`, which is `most` bytes long, holds the bytes and then zeros
abbrev pub Shows : ℕ → List ℕ → ℕ → List ℕ → Type 0
Shows most bytes n room = (n ≡ length bytes) × (room ≡ bytes ++ replicate (most - length bytes) 0)

-- the index at which the list of parameters begins in a text, or 0 if the text has no list
abbrev pub params_index : Phc → ℕ
params_index v = if length (params_text v.params) == 0 then 0
    else length v.algorithm + length (fields_text (field version_text v.version)) + 2

-- the structure shows the fields of a value, whatever its identifier and its parameters are
pub record ShowsFields (v : Phc) (shown : PhcShown) : Type 0 where
  pub name : shown.name_len ≡ length v.algorithm
  pub has_version : shown.has_version ≡ length (field version_text v.version)
  pub version : shown.text_version ≡ unwrap_or v.version 0
  pub params_at : shown.params_at ≡ params_index v
  pub params : shown.params_len ≡ length (params_text v.params)
  pub salt : Shows 48 (unwrap_or v.salt []) shown.salt_len shown.salt
  pub output : Shows 64 (unwrap_or v.hash []) shown.output_len shown.output

-- the structure shows these settings
pub record ShowsSettings (settings : SettingsValue) (shown : PhcShown) : Type 0 where
  pub algorithm : shown.algorithm ≡ algorithm_number settings.algorithm
  pub version : shown.version ≡ version_number settings.version
  pub m_cost : shown.m_cost ≡ settings.parameters.m_cost
  pub t_cost : shown.t_cost ≡ settings.parameters.t_cost
  pub p_cost : shown.p_cost ≡ settings.parameters.p_cost
  pub keyid : Shows 8 settings.parameters.keyid shown.keyid_len shown.keyid
  pub associated : Shows 32 settings.parameters.associated shown.associated_len shown.associated

-- the structure shows no settings
pub record ShowsNoSettings (shown : PhcShown) : Type 0 where
  pub algorithm : shown.algorithm ≡ 0
  pub version : shown.version ≡ 0
  pub m_cost : shown.m_cost ≡ 0
  pub t_cost : shown.t_cost ≡ 0
  pub p_cost : shown.p_cost ≡ 0
  pub keyid : Shows 8 [] shown.keyid_len shown.keyid
  pub associated : Shows 32 [] shown.associated_len shown.associated

-- 0, or why a value shows no settings
abbrev pub show_code : Phc → ℤ
show_code v = code_of (shown_settings v) (λ _. OK)
