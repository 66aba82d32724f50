use Rattle.std.proofs.Common.{rules, ◌≡◌, ◌∙◌, ℕ, false, Some, List, [], ◌∷◌, codes, refl}
use Rattle.std.specs.List.{list_all}
use Rattle.argon2_schemes.specs.Prefixes.{without_prefix, begins_any}
use Rattle.argon2_audit.specs.Finding.{IsTextFinding, claim_of, claim_of_text, field_in, is_space, stored_in, trim_line}
use Rattle.argon2_audit.specs.declared.claim.Claim.{Claim}
use Rattle.argon2_audit.specs.declared.field.Field.{Field}
use Rattle.argon2_audit.proofs.finding.finding_of.Goals as goal

-- a line that is neither blank nor a comment claims what its field claims, and stores the text of its field
claim_of-field : (field : Field) (line within text bared : List ℕ) (claim : Claim) → within ≡ trim_line line
    → list_all is_space within ≡ false → begins_any (codes "#" ∷ []) within ≡ false → field_in field within ≡ Some text
    → bared ≡ without_prefix text → claim ≡ claim_of_text bared → (claim_of field line ≡ claim) × (stored_in field line ≡ bared)
claim_of-field field line within text bared claim so some no_comment is cut claims =
    rw (claims, cut, ← so) (rw (some, no_comment, is) refl, rw is refl)

pub returns-in-Argon2 : goal.returns-in-Argon2
returns-in-Argon2 c =
    let known = claim_of-field c.args.field c.args.line.now _ c.in-Some.text.now _ _ c.trim_line-line.ensures (cc) (cc)
    (search rules) c.without_prefix-text.ensures c.claim_of_text.ensures in
    let claim = known.0 ∙ c.in-Argon2.is in
    let text : IsTextFinding (stored_in c.args.field c.args.line.now) c.finding_of_text.result =
    rw known.1 c.finding_of_text.ensures in
    search rules

pub returns-in_default-claim_of_text : goal.returns-in_default-claim_of_text
returns-in_default-claim_of_text c =
    let known = claim_of-field c.args.field c.args.line.now _ c.in-Some.text.now _ _ c.trim_line-line.ensures (cc) (cc)
    (search rules) c.without_prefix-text.ensures c.claim_of_text.ensures in
    (c.requires, known.0, c.in_default-claim_of_text.not-Argon2)
