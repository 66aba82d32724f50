-- The calls of a login, one after another, and the policy that they follow.
use Rattle.std.specs.Prelude.{◌≡◌, ◌≢◌, ◌⊎◌, ℕ, ◌<◌, ◌^◌, Bool, true, false, ℤ, Option, Some, None, if◌then◌else◌, List, [], ◌∷◌, ◌++◌, drop, length, suc, unwrap_or}
use Rattle.argon2_base.specs.PhcText.{Phc, IsPhcText, phc_text}
use Rattle.argon2_base.specs.Texts.{IsBytes}
use Rattle.argon2.specs.Policy.{LogsIn, PolicyValue}
use Rattle.argon2.specs.Rfc9106.{block_count}
use Rattle.argon2.specs.Settings.{SettingsValue}
use Rattle.argon2.specs.StoredTexts.{shown_settings}
use Rattle.argon2.specs.declared.login.answers.Accepted.{Accepted}
use Rattle.argon2.specs.declared.login.answers.Accepted.TheVariants.{Current, Kept, Rehashed}
use Rattle.argon2_c.specs.declared.code.TheConstants.{OK, CURRENT, DUE}
use Rattle.argon2_c.specs.declared.request.Request.{Request}
use Rattle.argon2_c.specs.PhcAdmission.{bound_of}
use Rattle.argon2_c.specs.PhcLogin.{AreRenewing, AreWanted, IsDueCode, wanted_code}
use Rattle.argon2_c.specs.PhcRequests.{params_refusal, value_with}
use Rattle.argon2_c.specs.Requests.{request_context, IsTagged}
use Rattle.argon2_c.specs.Verification.{BoundVerification}

-- the calls that verify answer 0
abbrev pub IsVerified : BoundVerification → Type 0
IsVerified c = (c.admitted ≡ OK) × (c.hashed ≡ OK) × (c.compared ≡ OK)

-- Parameters of new hashes, a verifier, a text and a password, and what the calls make of them: each is as its contract says.
pub record Login : Type 0 where
  pub wanted : Request
  pub keyid : List ℕ
  pub associated : List ℕ
  pub output_set : Option ℕ
  pub small : (wanted.m_cost < 2 ^ 32) × (wanted.t_cost < 2 ^ 32) × IsBytes keyid × IsBytes associated
  pub has_old : Bool
  -- the calls that verify under the secret, and under the old secret if there is one
  pub now : BoundVerification
  pub before : BoundVerification
  pub keys : (now.key ≡ now.secret) × (before.key ≡ now.old_secret)
  pub same : (before.bound ≡ now.bound) × (before.text ≡ now.text) × (before.password ≡ now.password)
      × (before.secret ≡ now.secret) × (before.old_secret ≡ now.old_secret)
  -- `argon2_c_phc_wanted_refusal`, before them
  pub secret : List ℕ
  pub checked : ℤ
  pub checks : checked ≡ wanted_code now.bound wanted output_set (length keyid) (length associated) secret now.secret
  pub renews : checked ≡ OK → AreRenewing now.bound wanted output_set (length keyid) (length associated) secret now.secret
  -- `argon2_c_phc_is_due`, after them
  pub by_old : Bool
  pub due : ℤ
  pub decides : params_refusal wanted (Some (unwrap_or output_set 32)) 32 (length keyid) (length associated) 0 ≡ None
      → (v : Phc) → IsPhcText now.text v → (settings : SettingsValue)
      × AreWanted wanted (unwrap_or output_set 32) keyid associated settings × IsDueCode settings by_old (shown_settings v) due
  -- then `argon2_c_hash` with the salt that is drawn, on as much memory as the costs ask for
  pub salt : List ℕ
  pub drawn : IsBytes salt × (length salt ≡ 16)
  pub out : List ℕ
  pub size : length out ≡ unwrap_or output_set 32
  pub hashed : ℤ
  pub tag : List ℕ
  pub hashes : IsTagged wanted now.password salt secret associated (block_count (request_context wanted [] [])) out hashed tag
  -- then `argon2_c_phc_encode`
  pub room : List ℕ
  pub encoded : ℤ
  pub written : List ℕ
  pub encodes : let text = phc_text (value_with wanted keyid associated salt tag) in
      encoded ≡ OK → written ≡ text ++ 0 ∷ drop (suc (length text)) room

-- the secret accepts, or the old secret accepts and the secret does not; `by_old` tells which
abbrev pub IsAcceptedLogin : Login → Type 0
IsAcceptedLogin c = (c.checked ≡ OK) × ((IsVerified c.now × (c.by_old ≡ false))
    ⊎ (¬ (IsVerified c.now) × (c.has_old ≡ true) × IsVerified c.before × (c.by_old ≡ true)))

-- the policy of a login whose wanted settings are these
abbrev pub policy_with : Login → SettingsValue → PolicyValue
policy_with c settings = record {
  target = record { settings = settings; secret = c.secret };
  old_secret = if c.has_old then Some c.now.old_secret else None;
  bound = bound_of c.now.bound;
}

-- the text logs in with this answer, and the value of the name is then `w`
abbrev pub IsLogin : Login → Accepted → Phc → Phc → Type 0
IsLogin c answer v w = IsPhcText c.now.text v × ((settings : SettingsValue)
    × AreWanted c.wanted (unwrap_or c.output_set 32) c.keyid c.associated settings
    × LogsIn (policy_with c settings) c.now.password c.salt v answer w)

-- the written text is the value's, with a zero byte after it
abbrev pub IsWritten : Login → Phc → Type 0
IsWritten c w = (text : List ℕ) × IsPhcText text w × (c.written ≡ text ++ 0 ∷ drop (suc (length text)) c.room)
