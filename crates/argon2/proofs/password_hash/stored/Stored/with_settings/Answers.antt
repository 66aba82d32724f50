use Rattle.argon2.proofs.Imports.{◌≡◌, Ok, length, ap, rules, ◌∙◌, option_map, phc_of, settings_value, shown_settings, ℕ, List, Option, arith}
use Rattle.argon2.proofs.Imports.{Pair, Phc, Parameters, SettingsValue, params_of}
use Rattle.argon2.proofs.password_hash.stored.Stored.with_settings.Goals as goal

-- parameters that are read have the length that is given
read_length : (output_len : Option ℕ) (ps : List Pair) (q : Parameters) → Ok q ≡ params_of output_len ps
    → q.output_len ≡ output_len
read_length output_len ps q is = grind arith

-- settings that a value shows have the length of its hash
shown_length : (v : Phc) (settings : SettingsValue) → Ok settings ≡ shown_settings v
    → settings.parameters.output_len ≡ option_map length v.hash
shown_length v settings is = let same = read_length (option_map length v.hash) v.params in grind arith

pub invariant_of-result-clause-sized : goal.invariant_of-result-clause-sized
invariant_of-result-clause-sized c =
    let shown : Ok (settings_value c.in_ok-settings.field-0) ≡ shown_settings (phc_of c.args.hash.now) = search rules in
    shown_length (phc_of c.args.hash.now) (settings_value c.in_ok-settings.field-0) shown
    ∙ ap (option_map length) c.in-Some-Some.is-1
