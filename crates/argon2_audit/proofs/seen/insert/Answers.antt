use Rattle.std.proofs.Common.{rules, ◌≡◌, ◌∙◌, ◌||◌, Bool, true, false, if◌then◌else◌, ap, refl}
use Rattle.std.specs.Str.{bytes_eq}
use Rattle.std.proofs.lemmas.Map.Text.{is_eq-slice_cmp}
use Rattle.argon2_audit.specs.Audit.{has_key}
use Rattle.argon2_audit.proofs.seen.insert.Goals as goal

-- a choice of true is an or
if_true-or : (a b : Bool) → (if a then true else b) ≡ (a || b)
if_true-or true b = refl
if_true-or false b = refl

pub returns-clause-kept : goal.returns-clause-kept
returns-clause-kept g c = λ other.
    let old : Bool = has_key c.args.keys.now other in
    let with_old : Bool → Bool = λ b. b || old in
    let key = c.try_extend_from_slice-fits.new.self in
    let key_is : key.items ≡ c.args.bytes.now = search rules in
    c.in_ok-insert.ensures.updates.0 (record { items = other }) ∙ if_true-or _ old
    ∙ ap with_old (is_eq-slice_cmp key.items other ∙ ap (λ k. bytes_eq k other) key_is)
