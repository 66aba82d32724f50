-- What is made is in the grammar, is accepted, and shows the settings.
use Rattle.argon2.proofs.Imports.{◌≡◌, ℕ, ◌^◌, ◌<◌, ◌≤◌, List, length, Option, Some, None, Result, Ok, refl, sym, ap, arith, IsNone, nat_tests, IsBytes, HasBytes}
use Rattle.argon2.proofs.Imports.{IsPhc, Pair, Phc, phc_text, Accepts, AcceptsBy, shown_settings, context_with, Parameters, algorithm_name, first_fault, version_number}
use Rattle.argon2.proofs.Imports.{tag_of, list_of, params_of, TargetValue, IsTarget, tag_length, with_tag_length, hash_value, Error, HashError}
use Rattle.argon2.specs.Argon2.{IsSound}
use Rattle.argon2.proofs.params_lemmas.ListedLemmas.{listed_good}
use Rattle.argon2.proofs.params_lemmas.Named.{algorithm_named-name, version_numbered-number}
use Rattle.argon2.proofs.params_lemmas.ReadAgain.{read_again}
use Rattle.argon2.proofs.password_hash_lemmas.TagBytes.{tag_bytes}

none_of : {X : Type 0} (o : Option X) → IsNone o → o ≡ None
none_of o h = grind arith

-- settings are a target if their hashes fit into texts
pub is_target : (target : TargetValue) → IsSound target → tag_length target.settings ≤ 64 → IsTarget target
is_target target is fits = record {
  valid = is.valid;
  m_cost = is.m_cost;
  t_cost = is.t_cost;
  keyid = is.keyid;
  associated = is.associated;
  tag_length = fits;
}

-- why parameters are refused with this output length
abbrev fault_with : Parameters → Option ℕ → Option Error
fault_with v o = first_fault v.m_cost v.t_cost v.p_cost o

module _ (target : TargetValue) (is : IsTarget target) (password salt : List ℕ) where
  -- an output length is at least 4, and so is the one of a hash if none is set
  costs : (target.settings.parameters.p_cost < 2 ^ 32) × (4 ≤ tag_length target.settings)
      × (fault_with target.settings.parameters (Some (tag_length target.settings)) ≡ None)
  costs = let valid = none_of (fault_with target.settings.parameters target.settings.parameters.output_len) is.valid in
      grind (arith, nat_tests)

  abbrev hash : List ℕ
  hash = tag_of (context_with target.settings target.secret) password salt (tag_length target.settings)

  hash_bytes : IsBytes hash × (length hash ≡ tag_length target.settings)
  hash_bytes = tag_bytes (context_with target.settings target.secret) password salt (tag_length target.settings) is.tag_length

  -- its parameters are read again
  parameters_shown : params_of (Some (length hash)) (list_of target.settings.parameters)
      ≡ Ok (with_tag_length target.settings).parameters
  parameters_shown = rw hash_bytes.1 (read_again _ _ _ _ _ (Some (tag_length target.settings)) is.m_cost is.t_cost costs.0
      is.keyid.0 is.associated.0 is.keyid.2 is.associated.2 costs.2)

  pub made_is_phc : HasBytes 8 48 salt → IsPhc (hash_value target password salt)
  made_is_phc h = record {
    algorithm = grind arith;
    version = grind arith;
    params = listed_good _ _ _ _ _ is.m_cost is.t_cost costs.0 is.keyid.0 is.associated.0 is.keyid.2 is.associated.2;
    salt = h;
    hash = (hash_bytes.0, rw hash_bytes.1 costs.1, rw hash_bytes.1 is.tag_length);
    salted = λ _. refl;
  }

  pub made_accepts : length password ≤ 4294967295 → AcceptsBy target.secret password (hash_value target password salt)
  made_accepts short = record {
    salt = salt;
    hash = hash;
    settings = with_tag_length target.settings;
    has_salt = refl;
    has_hash = refl;
    has_parameters = parameters_shown;
    has_algorithm = algorithm_named-name target.settings.algorithm;
    has_version = version_numbered-number target.settings.version;
    short = short;
    same_tag = ap (tag_of (context_with target.settings target.secret) password salt) (sym hash_bytes.1);
  }

  -- a made value shows the target's settings
  pub made_shows : (v : Phc) → v ≡ hash_value target password salt → shown_settings v ≡ Ok (with_tag_length target.settings)
  made_shows v e =
      let named = algorithm_named-name target.settings.algorithm in
      rw (e, parameters_shown, named, version_numbered-number target.settings.version) refl

  -- the text of a made value accepts the password
  pub made_accepted : (v : Phc) → v ≡ hash_value target password salt → HasBytes 8 48 salt → length password ≤ 4294967295
      → Accepts target.secret password (phc_text v)
  made_accepted v e bytes short = (v, (rw e (made_is_phc bytes), refl), rw e (made_accepts short))

-- a value with the parts of a made value is the made value
pub is_made : (target : TargetValue) (password salt name : List ℕ) (number : ℕ) (ps : List Pair) (v : Parameters)
    (own given tag : List ℕ)
    → name ≡ algorithm_name target.settings.algorithm → number ≡ version_number target.settings.version
    → ◌≡◌ {A = Result (List Pair) HashError} (Ok ps) (Ok (list_of v)) → v ≡ target.settings.parameters → own ≡ salt → given ≡ own
    → tag ≡ tag_of (context_with target.settings target.secret) password given (tag_length target.settings)
    → record { algorithm = name; version = Some number; params = ps; salt = Some own; hash = Some tag }
    ≡ hash_value target password salt
is_made target password salt name number ps v own given tag named numbered listed of_target salted same tagged =
    let list : ps ≡ list_of v = cc in
    rw (named, numbered, list, of_target, tagged, same, salted) refl
