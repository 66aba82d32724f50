-- Whether a text is to be renewed.
use Rattle.std.specs.Prelude.{ℕ, ◌==◌, ◌&&◌, ◌||◌, nat_lt, Bool, ℤ, if◌then◌else◌, List, [], length, unwrap_or}
use Rattle.std.specs.Str.{bytes_eq}
use Rattle.argon2_base.specs.PhcText.{Phc}
use Rattle.argon2.specs.Settings.{SettingsValue, algorithm_number, version_number}
use Rattle.argon2.specs.StoredTexts.{shown_settings}
use Rattle.argon2_c.specs.declared.code.TheConstants.{CURRENT, OTHER, BELOW}
use Rattle.argon2_c.specs.declared.request.Request.{Request}
use Rattle.argon2_c.specs.PhcFaults.{code_of}

-- a cost, the version or the length of the hash is below what is wanted
abbrev pub is_below : Request → ℕ → SettingsValue → ℕ → Bool
is_below wanted output shown hash =
    nat_lt shown.parameters.m_cost wanted.m_cost || nat_lt shown.parameters.t_cost wanted.t_cost
    || nat_lt shown.parameters.p_cost wanted.lanes || nat_lt hash output
    || nat_lt (version_number shown.version) wanted.version

-- all is as wanted
abbrev pub is_wanted : Request → ℕ → List ℕ → List ℕ → SettingsValue → ℕ → Bool
is_wanted wanted output keyid associated shown hash =
    (algorithm_number shown.algorithm == wanted.algorithm) && (version_number shown.version == wanted.version)
    && (shown.parameters.m_cost == wanted.m_cost) && (shown.parameters.t_cost == wanted.t_cost)
    && (shown.parameters.p_cost == wanted.lanes) && (hash == output)
    && bytes_eq shown.parameters.keyid keyid && bytes_eq shown.parameters.associated associated

-- whether something is below what is wanted, or all is as wanted; or why a value shows no settings
abbrev pub renewal_code : Request → ℕ → List ℕ → List ℕ → Phc → ℤ
renewal_code wanted output keyid associated v = code_of (shown_settings v) (λ shown.
    let hash = length (unwrap_or v.hash []) in
    if is_below wanted output shown hash then BELOW
    else if is_wanted wanted output keyid associated shown hash then CURRENT else OTHER)
