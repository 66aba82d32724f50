-- What callers see of parameters, their builder and their byte lists.
use Rattle.std.specs.Prelude.{◌≡◌, ℕ, ◌<◌, ◌≤◌, List, length, Result, Ok, Err, Some, [], Option, None, unwrap_or}
use Rattle.std.specs.Borrow.{MutBor}
use Rattle.std.specs.Option.{option_map}
use Rattle.argon2_base.specs.Texts.{IsBytes, strict_base64}
use Rattle.argon2_base.specs.ByteList.{IsBase64Cause}
use Rattle.argon2_base.specs.declared.error.Error.{Error}
use Rattle.argon2_base.specs.declared.error.Error.TheVariants.{B64Encoding}
use Rattle.argon2.specs.declared.params.Params.{Params}
use Rattle.argon2.specs.Settings.{AreValid, Parameters, default_parameters, first_fault, cost_parameters}
use Rattle.argon2.specs.Argon2.{associated_bytes, keyid_bytes, parameters_of}
use Rattle.argon2.specs.declared.params.builder.ParamsBuilder.{ParamsBuilder}

-- ---- key identifiers and associated data

-- the bytes that a value shows, which are at most `most`
pub record AreBytes (most : ℕ) (own bytes : List ℕ) : Type 0 where
  pub value : bytes ≡ own
  pub fits : length own ≤ most

-- a key identifier or associated data of these bytes, or the refusal `fault` of more than `most` bytes
abbrev pub IsOfBytes : {X : Type 0} → (X → List ℕ) → ℕ → Error → List ℕ → Result X Error → Type 0
IsOfBytes view most fault bytes (Ok x) = view x ≡ bytes
IsOfBytes view most fault bytes (Err e) = (e ≡ fault) × (most < length bytes)

-- why a text whose greatest length is given is refused, as a fault of hashing
abbrev pub IsBase64Fault : ℕ → List ℕ → Error → Type 0
IsBase64Fault longest text (B64Encoding cause) = IsBase64Cause longest text cause
IsBase64Fault longest text _ = ⊥

-- a key identifier or associated data whose Base64 the text is, or why there is none
abbrev pub IsOfText : {X : Type 0} → (X → List ℕ) → ℕ → List ℕ → Result X Error → Type 0
IsOfText view longest text (Ok x) = IsBytes (view x) × (text ≡ strict_base64 (view x))
IsOfText view longest text (Err e) = IsBase64Fault longest text e

-- ---- parameters

-- these parameters, which are valid, or their first fault
abbrev pub IsParamsOf : Parameters → Result Params Error → Type 0
IsParamsOf v (Ok params) = AreValid v × (parameters_of params ≡ v)
IsParamsOf v (Err e) = first_fault v.m_cost v.t_cost v.p_cost v.output_len ≡ Some e

-- ---- the builder

-- the six settings; bytes that are not set differ from the empty list
pub record BuilderSettings : Type 0 where
  pub m_cost : ℕ
  pub t_cost : ℕ
  pub p_cost : ℕ
  pub keyid : Option (List ℕ)
  pub associated : Option (List ℕ)
  pub output_len : Option ℕ

-- the settings, in place of the fields
abbrev pub builder_settings : ParamsBuilder → BuilderSettings
builder_settings builder = record {
  m_cost = builder.m_cost;
  t_cost = builder.t_cost;
  p_cost = builder.p_cost;
  keyid = option_map keyid_bytes builder.keyid;
  associated = option_map associated_bytes builder.associated;
  output_len = builder.output_len;
}

-- a setter's answer: the same reference, to a builder whose settings are changed
pub record Sets (old new : MutBor ParamsBuilder) (change : BuilderSettings → BuilderSettings) : Type 0
  where
    pub same_reference : new.ghost_name ≡ old.ghost_name
    pub value : builder_settings new.now ≡ change (builder_settings old.now)

-- what a builder starts with: the costs by default
abbrev pub default_settings : BuilderSettings
default_settings = record {
  m_cost = default_parameters.m_cost;
  t_cost = default_parameters.t_cost;
  p_cost = default_parameters.p_cost;
  keyid = None;
  associated = None;
  output_len = None;
}

-- the parameters of settings; bytes that are not set are none
abbrev pub built : BuilderSettings → Parameters
built s = record (cost_parameters s.m_cost s.t_cost s.p_cost s.output_len)
    { keyid = unwrap_or s.keyid []; associated = unwrap_or s.associated [] }
