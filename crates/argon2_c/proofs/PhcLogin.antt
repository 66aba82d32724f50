-- What the calls of a login amount to.
use Rattle.std.proofs.Common.{◌≡◌, ◌⊎◌, inl, inr, ℕ, ◌≤◌, ◌*◌, not, Bool, true, false, ℤ, List, length, Option, Some, None, Result, Ok, arith, refl, sym, subst, ap, ◌∙◌}
use Rattle.std.specs.Prelude.{IsTrue, unwrap_or}
use Rattle.std.proofs.lemmas.Bool.Decides.{nat_tests}
use Rattle.argon2_base.specs.Error.{Fault}
use Rattle.argon2_base.specs.PhcText.{HasBytes, IsPhc, Phc, IsPhcText, phc_text}
use Rattle.argon2.specs.Bound.{AcceptsWithin, AsksWithin}
use Rattle.argon2.specs.Policy.{AreNoWeaker, IsNoWeaker, IsOutdated}
use Rattle.argon2.specs.Refusals.{first_of, max_len}
use Rattle.argon2.specs.Settings.{SettingsValue, algorithm_name, algorithm_number, first_fault, max_lanes}
use Rattle.argon2.specs.StoredTexts.{AcceptsBy, shown_settings}
use Rattle.argon2.specs.TextHashing.{IsTarget, TargetValue, hash_value, tag_length}
use Rattle.argon2.proofs.password_hash_lemmas.MadeValues.{made_is_phc}
use Rattle.argon2.specs.declared.algorithm.Algorithm.{Algorithm}
use Rattle.argon2.specs.declared.algorithm.Algorithm.TheVariants.{Argon2d, Argon2i, Argon2id}
use Rattle.argon2.specs.declared.login.answers.Accepted.TheVariants.{Current, Kept, Rehashed}
use Rattle.argon2_c.specs.declared.code.TheConstants.{OK, CURRENT, DUE}
use Rattle.argon2_c.specs.declared.request.Request.{Request}
use Rattle.argon2_c.specs.Logins.{IsAcceptedLogin, IsLogin, IsVerified, IsWritten, Login, policy_with}
use Rattle.argon2_c.specs.PhcAdmission.{bound_of}
use Rattle.argon2_c.specs.PhcLogin.{AreRenewing, AreWanted, IsDueCode}
use Rattle.argon2_c.specs.PhcRequests.{own_faults, params_refusal, value_with}
use Rattle.argon2_c.specs.Requests.{IsFaultless}
use Rattle.argon2_c.specs.Texts.{name_numbered}
use Rattle.argon2_c.proofs.PhcVerified.{IsVerified-accepted, Ok-injective}

-- ---- parameters of new hashes

-- costs without a fault are within the limits
first_fault-limits : (m t p : ℕ) (output : Option ℕ) → first_fault m t p output ≡ None
    → (8 * p ≤ m) × (1 ≤ t) × (1 ≤ p) × (p ≤ max_lanes) × (8 ≤ m) × (4 ≤ unwrap_or output 4)
    × (unwrap_or output 4 ≤ max_len)
first_fault-limits m t p output none = grind (arith, nat_tests)

-- an output that is set is as long as the least one, or has 32 bytes
output-least : (output : Option ℕ) → 4 ≤ unwrap_or output 4 → 4 ≤ unwrap_or output 32
output-least None least = omega arith
output-least (Some n) least = least

-- costs within the limits have no fault with another output length within its limits
first_fault-none : (m t p n : ℕ) → (8 * p ≤ m) × (1 ≤ t) × (1 ≤ p) × (p ≤ max_lanes) × (8 ≤ m) → 4 ≤ n → n ≤ 64
    → first_fault m t p (Some n) ≡ None
first_fault-none m t p n limits least most = grind (arith, nat_tests)

-- what is not refused beside the costs has no fault
own_faults-none : (r : Request) (keyid associated : ℕ) → keyid ≤ 8 → associated ≤ 32 → r.algorithm ≤ 2
    → (r.version ≡ 16) ⊎ (r.version ≡ 19) → first_of (own_faults r 32 keyid associated 0) ≡ None
own_faults-none r keyid associated short few variant version = grind (arith, nat_tests)

module _ (c : Login) (renews : AreRenewing c.now.bound c.wanted c.output_set (length c.keyid) (length c.associated) c.secret
    c.now.secret) where
  abbrev limits : (8 * c.wanted.lanes ≤ c.wanted.m_cost) × (1 ≤ c.wanted.t_cost) × (1 ≤ c.wanted.lanes)
      × (c.wanted.lanes ≤ max_lanes) × (8 ≤ c.wanted.m_cost) × (4 ≤ unwrap_or c.output_set 4)
      × (unwrap_or c.output_set 4 ≤ max_len)
  limits = first_fault-limits c.wanted.m_cost c.wanted.t_cost c.wanted.lanes c.output_set renews.taken.costs

  -- the parameters are not refused, and so the call decides whether a new hash is due
  taken-none : params_refusal c.wanted (Some (unwrap_or c.output_set 32)) 32 (length c.keyid) (length c.associated) 0 ≡ None
  taken-none =
      let least = output-least c.output_set limits.5 in
      let costs = first_fault-none c.wanted.m_cost c.wanted.t_cost c.wanted.lanes (unwrap_or c.output_set 32)
      (limits.0, limits.1, limits.2, limits.3, limits.4) least renews.fits in
      let taken = renews.taken in
      rw costs (own_faults-none c.wanted (length c.keyid) (length c.associated) taken.keyid_most taken.associated_most
      taken.is_variant taken.is_version)

  -- a hash of a password that is not too long has no fault
  hash-faultless : length c.now.password ≤ max_len → IsFaultless c.wanted (length c.out) (length c.now.password) (length c.salt)
      (length c.secret) (length c.associated)
  hash-faultless short =
      let least = output-least c.output_set limits.5 in
      let taken = renews.taken in
      let associated = taken.associated_most in
      record {
        out_least = rw (c.size) least;
        out_most = let fits = renews.fits in omega (arith, fits, c.size);
        pwd_most = short;
        salt_least = omega (arith, c.drawn);
        salt_most = omega (arith, c.drawn);
        secret_most = taken.secret_most;
        associated_most = omega (arith, associated);
        memory_least = limits.0;
        some_pass = limits.1;
        some_lane = limits.2;
        lanes_most = limits.3;
        is_variant = taken.is_variant;
        is_version = taken.is_version;
      }

-- ---- what is accepted

-- what a value that accepts shows
accepting-shows : {secret password : List ℕ} {v : Phc} (a : AcceptsBy secret password v) → shown_settings v ≡ Ok a.settings
accepting-shows a = rw (a.has_hash, a.has_parameters, a.has_algorithm, a.has_version) refl

-- two values of one option are equal
Some-injective : {X : Type 0} {x y : X} (o : Option X) → o ≡ Some x → o ≡ Some y → x ≡ y
Some-injective o is other = grind arith

-- a login that is accepted: the value of the text, and which secret accepts
record IsOpened (c : Login) : Type 0 where
  v : Phc
  says : IsPhcText c.now.text v
  asks : AsksWithin (bound_of c.now.bound) v
  short : length c.now.password ≤ max_len
  shown : SettingsValue
  shows : shown_settings v ≡ Ok shown
  opens : (AcceptsBy c.now.secret c.now.password v × (c.by_old ≡ false))
      ⊎ ((¬ (AcceptsBy c.now.secret c.now.password v) × (c.has_old ≡ true) × AcceptsBy c.now.old_secret c.now.password v)
      × (c.by_old ≡ true))

-- the inputs of both verifications are the same
before-accepted : (c : Login) → IsVerified c.before
    → (accepts : AcceptsWithin (bound_of c.now.bound) c.now.old_secret c.now.password c.now.text)
    × (c.now.bound.min_output ≤ length accepts.3.hash) × (length accepts.3.hash ≤ c.now.bound.max_output)
    × (length c.now.secret ≤ max_len) × (length c.now.old_secret ≤ max_len)
before-accepted c verified =
    let same = c.same in
    rw (same.0, same.1, same.2, same.3, same.4, c.keys.1) at ((IsVerified-accepted c.before).0 verified)

-- an accepted login is opened by one of the secrets
opened : (c : Login) → IsAcceptedLogin c → IsOpened c
opened c (ok, inl (verified, by)) =
    let is = rw (c.keys.0) at ((IsVerified-accepted c.now).0 verified) in
    let a = is.0.3 in
    record {
      v = is.0.0;
      says = is.0.1;
      asks = is.0.2;
      short = a.short;
      shown = a.settings;
      shows = accepting-shows a;
      opens = inl (a, by);
    }
opened c (ok, inr (refused, has, verified, by)) =
    let is = before-accepted c verified in
    let old = is.0.3 in
    record {
      v = is.0.0;
      says = is.0.1;
      asks = is.0.2;
      short = old.short;
      shown = old.settings;
      shows = accepting-shows old;
      opens = inr (
        (
          λ a.
              let hash = Some-injective is.0.0.hash old.has_hash a.has_hash in
              refused ((IsVerified-accepted c.now).1 (rw (c.keys.0) (
                (is.0.0, is.0.1, is.0.2, a),
                rw hash at is.1,
                rw hash at is.2,
                is.3,
                is.4,
              ))),
          has,
          old,
        ),
        by,
      );
    }

-- ---- what is stored

-- the code of settings that are shown
decided-shown : (settings : SettingsValue) (by_old : Bool) (r : Result SettingsValue Fault) (shown : SettingsValue) (code : ℤ)
    → r ≡ Ok shown → IsDueCode settings by_old r code → IsDueCode settings by_old (Ok shown) code
decided-shown settings by_old r shown code is decided = subst (λ x. IsDueCode settings by_old x code) is decided

-- a value that shows settings is no weaker if and only if they are
IsNoWeaker-shown : (target : TargetValue) (v : Phc) (shown : SettingsValue) → shown_settings v ≡ Ok shown → IsNoWeaker target v
    → AreNoWeaker target.settings shown
IsNoWeaker-shown target v shown shows is =
    subst (λ x. AreNoWeaker target.settings x) (Ok-injective (shown_settings v) is.1 shows) is.2

-- true is not false
true-false : (b : Bool) → b ≡ false → IsTrue b → ⊥
true-false b is holds = grind arith

module _ (c : Login) (o : IsOpened c) (settings : SettingsValue) (same : c.secret ≡ c.now.secret) where
  -- a login that stays
  stays : ¬ (IsTrue c.by_old) → AreNoWeaker settings o.shown
      → AcceptsBy c.secret c.now.password o.v × IsNoWeaker (policy_with c settings).target o.v
  stays not no_weaker = elim o.opens [
    | inl accepts ↦ (rw same accepts.0, (o.shown, o.shows, no_weaker))
    | inr accepts ↦ absurd (not (grind (arith, accepts)))
  ]

  -- a login whose hash is outdated
  outdated : IsTrue c.by_old ⊎ ¬ (AreNoWeaker settings o.shown)
      → IsOutdated (policy_with c settings) c.now.password o.v
  outdated (inl by) = elim o.opens [
    | inl accepts ↦ absurd (true-false c.by_old accepts.1 by)
    | inr accepts ↦ inr (rw same accepts.0.0, rw (accepts.0.1) (accepts.0.2))
  ]
  outdated (inr weaker) = elim o.opens [
    | inl accepts ↦ inl (
      rw same accepts.0,
      λ is. weaker (IsNoWeaker-shown (policy_with c settings).target o.v o.shown o.shows is),
    )
    | inr accepts ↦ inr (rw same accepts.0.0, rw (accepts.0.1) (accepts.0.2))
  ]

-- ---- the new hash

-- the name of a variant's number is the variant's name
name_numbered-algorithm : (algorithm : Algorithm) → name_numbered (algorithm_number algorithm) ≡ algorithm_name algorithm
name_numbered-algorithm Argon2d = refl
name_numbered-algorithm Argon2i = refl
name_numbered-algorithm Argon2id = refl

module _ (c : Login) (settings : SettingsValue)
    (wanted : AreWanted c.wanted (unwrap_or c.output_set 32) c.keyid c.associated settings)
    (renews : AreRenewing c.now.bound c.wanted c.output_set (length c.keyid) (length c.associated) c.secret c.now.secret) where
  abbrev target : TargetValue
  target = record { settings = settings; secret = c.secret }

  -- new hashes are made under a target
  is_target : IsTarget target
  is_target =
      let fits = renews.fits in
      let taken = renews.taken in
      let keyid = taken.keyid_most in
      let associated = taken.associated_most in
      record {
        valid = rw (wanted.parameters) (rw (first_fault-none c.wanted.m_cost c.wanted.t_cost c.wanted.lanes
            (unwrap_or c.output_set 32) (let l = limits c renews in (l.0, l.1, l.2, l.3, l.4))
            (output-least c.output_set (limits c renews).5) fits) refl);
        m_cost = rw (wanted.parameters) (c.small.0);
        t_cost = rw (wanted.parameters) (c.small.1);
        keyid = rw (wanted.parameters) (c.small.2, omega arith, keyid);
        associated = rw (wanted.parameters) (c.small.3, omega arith, associated);
        tag_length = rw (wanted.parameters) fits;
      }

  -- the text that is written is of the new hash
  value-made : c.hashed ≡ OK → value_with c.wanted c.keyid c.associated c.salt c.tag ≡ hash_value target c.now.password c.salt
  value-made made =
      let tag = c.hashes.tagged made in
      rw (
        wanted.parameters,
        tag,
        c.size,
        sym wanted.algorithm,
        sym wanted.version,
        name_numbered-algorithm settings.algorithm,
      ) refl

-- ---- the law

-- the parameters of an accepted login have no fault
renewing : (c : Login) → IsAcceptedLogin c
    → AreRenewing c.now.bound c.wanted c.output_set (length c.keyid) (length c.associated) c.secret c.now.secret
renewing c is = c.renews is.0

-- what is decided of an accepted login
decision : (c : Login) (is : IsAcceptedLogin c) (o : IsOpened c) → (settings : SettingsValue)
    × AreWanted c.wanted (unwrap_or c.output_set 32) c.keyid c.associated settings
    × IsDueCode settings c.by_old (Ok o.shown) c.due
decision c is o =
    let d = c.decides (taken-none c (renewing c is)) o.v o.says in
    (d.0, d.1, decided-shown d.0 c.by_old (shown_settings o.v) o.shown c.due o.shows d.2)

pub login-decides : (c : Login) → IsAcceptedLogin c → (c.due ≡ CURRENT) ⊎ (c.due ≡ DUE)
login-decides c is = elim (decision c is (opened c is)).2 [
  | inl due ↦ inr (due.0)
  | inr stays ↦ inl (stays.0)
]

pub login-hashes : (c : Login) → IsAcceptedLogin c → c.hashed ≡ OK
login-hashes c is = c.hashes.taken.1 (hash-faultless c (renewing c is) (opened c is).short, refl)

pub login-current : (c : Login) → IsAcceptedLogin c → c.due ≡ CURRENT → (v : Phc) × IsLogin c Current v v
login-current c is code =
    let o = opened c is in
    let d = decision c is o in
    let same = (renewing c is).allowed.same_secret in
    elim d.2 [
      | inl due ↦ absurd (let no = sym code ∙ due.0 in cc)
      | inr keeps ↦ (o.v, (o.says, (d.0, d.1, let s = stays c o d.0 same keeps.1 keeps.2 in (o.asks, s.0, s.1, refl))))
    ]

-- a due login's hash is outdated
login-outdated : (c : Login) (is : IsAcceptedLogin c) (o : IsOpened c) (d : (settings : SettingsValue)
    × AreWanted c.wanted (unwrap_or c.output_set 32) c.keyid c.associated settings
    × IsDueCode settings c.by_old (Ok o.shown) c.due) → c.due ≡ DUE → IsOutdated (policy_with c d.0) c.now.password o.v
login-outdated c is o d code = elim d.2 [
  | inl due ↦ outdated c o d.0 (renewing c is).allowed.same_secret due.1
  | inr keeps ↦ absurd (let no = sym code ∙ keeps.0 in cc)
]

pub login-kept : (c : Login) → IsAcceptedLogin c → c.due ≡ DUE → (v : Phc) × IsLogin c Kept v v
login-kept c is code =
    let o = opened c is in
    let d = decision c is o in
    (o.v, (o.says, (d.0, d.1, (o.asks, login-outdated c is o d code, refl))))

pub login-renewed : (c : Login) → IsAcceptedLogin c → c.due ≡ DUE → c.encoded ≡ OK
    → (v : Phc) × (w : Phc) × IsLogin c Rehashed v w × IsWritten c w
login-renewed c is code encoded =
    let o = opened c is in
    let d = decision c is o in
    let renews = renewing c is in
    let w = value_with c.wanted c.keyid c.associated c.salt c.tag in
    let made = value-made c d.0 d.1 renews (login-hashes c is) in
    let salt : HasBytes 8 48 c.salt = (c.drawn.0, omega (arith, c.drawn), omega (arith, c.drawn)) in
    let is_phc = made_is_phc (target c d.0 d.1 renews) (is_target c d.0 d.1 renews) c.now.password c.salt salt in
    let grammatical : IsPhc w = rw made is_phc in (
      o.v,
      w,
      (o.says, (d.0, d.1, (o.asks, login-outdated c is o d code, (salt, o.short, made)))),
      (phc_text w, (grammatical, refl), c.encodes encoded),
    )
