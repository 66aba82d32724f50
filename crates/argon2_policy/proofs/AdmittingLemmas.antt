-- Values that ask for no more than the bound, and fresh values and texts, which accept their password within it.
use Rattle.std.proofs.Common.{◌≡◌, ℕ, ◌*◌, ◌≤◌, List, Option, Some, None, Result, Ok, Err, ◌∷◌, ◌++◌, inl, refl, subst, sym, arith, div-mul-le_self}
use Rattle.std.proofs.lemmas.Bool.Decides.{nat_tests}
use Rattle.std.specs.Prelude.{IfOk, ok_or}
use Rattle.argon2_base.specs.Error.{Fault, bad_algorithm, bad_version}
use Rattle.argon2_base.specs.Texts.{strict_base64}
use Rattle.argon2_base.specs.PhcText.{field, fields_text, list_field, phc_text, version_text}
use Rattle.argon2_base.specs.declared.phc.hash.PasswordHash.{PasswordHash}
use Rattle.argon2.specs.declared.algorithm.Algorithm.{Algorithm}
use Rattle.argon2.specs.declared.algorithm.Algorithm.TheVariants.{Argon2d, Argon2i, Argon2id}
use Rattle.argon2.specs.declared.version.Version.{Version}
use Rattle.argon2.specs.TextHashing.{IsHashAnswer, hash_value}
use Rattle.argon2.specs.Rfc9106.{segment_length_for}
use Rattle.argon2.specs.Settings.{Parameters, algorithm_name}
use Rattle.argon2.specs.StoredTexts.{result_and_then}
use Rattle.argon2.proofs.login_lemmas.LoginLemmas.{hash_made}
use Rattle.argon2.proofs.password_hash_lemmas.MadeValues.{made_accepts, made_shows}
use Rattle.argon2_policy.specs.Policy.{AsksWithin, Bound, BoundError, Error, IsHashRefusal, IsFresh, IsWithin, Phc, SettingsValue, TargetValue}
use Rattle.argon2_policy.specs.Policy.{shown_settings, text_of}
use Rattle.argon2_schemes.specs.Schemes.{scheme_of}
use Rattle.argon2_policy.specs.Policy.{Admits, AdmitsStored, IsPolicy, PolicyValue, phc_of}

-- ---- the bound

-- a hash fills no more memory than the bound allows: its blocks are at most its memory cost
filled_memory_is_within : (m p most : ℕ) → m ≤ most → 1024 * (p * (4 * segment_length_for m p)) ≤ 1024 * most
unfolding segment_length_for
filled_memory_is_within m p most within = let least = div-mul-le_self m (4 * p) in grind arith

-- the settings that a value shows have the parameters that it shows
settings_give_parameters : (r : Result Parameters Fault) (algorithm : Option Algorithm) (version : Option Version)
    (settings : SettingsValue) → result_and_then r (λ parameters. result_and_then (ok_or algorithm bad_algorithm) (λ own.
    result_and_then (ok_or version bad_version) (λ number.
    Ok (record { algorithm = own; version = number; parameters = parameters })))) ≡ Ok settings
    → r ≡ Ok settings.parameters
settings_give_parameters r algorithm version settings is = grind arith

-- a value that shows costs within the bound asks for no more than the bound
value_asks_within : (bound : Bound) (v : Phc) (settings : SettingsValue) → shown_settings v ≡ Ok settings
    → IsWithin bound settings.parameters → AsksWithin bound v
value_asks_within bound v settings shows within = record {
  parameters = settings.parameters;
  asked = settings_give_parameters _ _ _ settings shows;
  within = within;
  memory = filled_memory_is_within settings.parameters.m_cost settings.parameters.p_cost bound.m_cost within.0;
}

-- a value that the bound refuses asks for more than the bound, or its parameters can not be read
pub refused_asks_above : (bound : Bound) (v : Phc) (e : BoundError) → IsHashRefusal bound v e → ¬ (AsksWithin bound v)
refused_asks_above bound v e why asks = let a = asks.asked in let w = asks.within in grind arith

-- ---- fresh values

-- the hash that hashing a password answers is fresh
pub made_hash_is_fresh : (target : TargetValue) (password drawn : List ℕ) (h : PasswordHash)
    → IsHashAnswer target password drawn (Ok h) → IsFresh target password drawn (phc_of h)
made_hash_is_fresh target password drawn h answer =
    let same = hash_made target password drawn h answer in ((rw same at h.grammatical).salt, grind (arith, nat_tests), same)

-- the fields of a text after the name of its algorithm
abbrev fields_after_name : Phc → List (List ℕ)
fields_after_name v =
    field version_text v.version ++ (list_field v.params ++ (field strict_base64 v.salt ++ field strict_base64 v.hash))

-- a text that begins with the name of an algorithm is of no other scheme
argon2_has_no_scheme : (algorithm : Algorithm) (rest : List ℕ) → scheme_of (36 ∷ algorithm_name algorithm ++ rest) ≡ None
argon2_has_no_scheme Argon2d rest = refl
argon2_has_no_scheme Argon2i rest = refl
argon2_has_no_scheme Argon2id rest = refl

-- the text of a hash is of no other scheme
made_text_has_no_scheme : (target : TargetValue) (password salt : List ℕ)
    → scheme_of (phc_text (hash_value target password salt)) ≡ None
made_text_has_no_scheme target password salt =
    argon2_has_no_scheme target.settings.algorithm (fields_text (fields_after_name (hash_value target password salt)))

module _ (policy : PolicyValue) (is : IsPolicy policy) (password drawn : List ℕ) where
  -- a fresh value accepts its password within the bound
  fresh_value_is_admitted : (w : Phc) → IsFresh policy.target password drawn w → Admits policy password w
  fresh_value_is_admitted w fresh = (
    value_asks_within policy.bound w _ (made_shows policy.target is.is_target password drawn w fresh.2) is.within,
    inl (rw fresh.2 (made_accepts policy.target is.is_target password drawn fresh.1)),
  )

  -- a fresh text, once it is stored, accepts its password
  fresh_text_is_admitted : (h : PasswordHash) → IsFresh policy.target password drawn (phc_of h)
      → AdmitsStored policy password (Some (text_of h))
  fresh_text_is_admitted h fresh = (
    phc_of h,
    (
      refl,
      subst (λ v. scheme_of (phc_text v) ≡ None) (sym fresh.2) (made_text_has_no_scheme policy.target password drawn),
      (h.grammatical, refl),
    ),
    fresh_value_is_admitted (phc_of h) fresh,
  )

  -- so does the text that hashing a password answers
  pub made_text_is_admitted : (r : Result PasswordHash Error) → IsHashAnswer policy.target password drawn r
      → IfOk r (λ h. AdmitsStored policy password (Some (text_of h)))
  made_text_is_admitted (Ok h) answer = fresh_text_is_admitted h (made_hash_is_fresh policy.target password drawn h answer)
  made_text_is_admitted (Err e) answer = tt
