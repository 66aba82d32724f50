use Rattle.argon2_passwd.proofs.Common.{ap, arith, Bool, Flaw, MayBeAdded, length, List, None, Option, Some, subst, sym, ℕ, ◌≡◌, ◌∙◌}
use Rattle.std.specs.Prelude.{◌≤◌, if◌then◌else◌}
use Rattle.argon2_schemes.specs.Prefixes.{without_prefix}
use Rattle.argon2_passwd.specs.Lines.{Character, IsFlaw, Mark, NameLength, NoText, Taken, TextLength, name_flaw, parts_of}
use Rattle.argon2_passwd.proofs.lines.read_line.Goals as goal

-- the first flaw of a name, by three tests
abbrev first_flaw : Bool → Bool → Bool → Option Flaw
first_flaw a b c = if a then Some NameLength else if b then Some Character else if c then Some Mark else None

-- a flaw of a name is not that a text is too long
name_flaw_is_not_text_length : (a b c : Bool) → ¬ (first_flaw a b c ≡ Some TextLength)
name_flaw_is_not_text_length a b c is = grind arith

-- a flaw of a name is not that there is no text
name_flaw_is_not_no_text : (a b c : Bool) → ¬ (first_flaw a b c ≡ Some NoText)
name_flaw_is_not_no_text a b c is = grind arith

-- the flaw of a name is the flaw of its line, if the text may be added
name_flaw_is_line_flaw : (any_text : Bool) (name text : List ℕ) (flaw : Flaw) → length text ≤ 4096 → MayBeAdded any_text text
    → name_flaw name ≡ Some flaw → IsFlaw any_text name text flaw
name_flaw_is_line_flaw any_text name text TextLength short taken is = absurd (name_flaw_is_not_text_length _ _ _ is)
name_flaw_is_line_flaw any_text name text NoText short taken is = absurd (name_flaw_is_not_no_text _ _ _ is)
name_flaw_is_line_flaw any_text name text NameLength short taken is = (short, taken, is)
name_flaw_is_line_flaw any_text name text Character short taken is = (short, taken, is)
name_flaw_is_line_flaw any_text name text Mark short taken is = (short, taken, is)
name_flaw_is_line_flaw any_text name text Taken short taken is = (short, taken, is)

pub returns-in-Some-Some : goal.returns-in-Some-Some
returns-in-Some-Some c =
    let text = c.str_without_prefix-text.ensures ∙ ap (λ (e : List ℕ × List ℕ). without_prefix e.1) c.split_line.ensures in
    let name = ap (λ (e : List ℕ × List ℕ). e.0) c.split_line.ensures in
    let short : length c.str_without_prefix-text.result.now ≤ 4096 = grind (arith, c.if-text-gt-MAX_LEN.false) in
    let flawed = sym (ap name_flaw name) ∙ sym c.name_flaw.ensures ∙ c.in-Some-Some.is-1 in
    name_flaw_is_line_flaw _ (parts_of c.args.line.now).0 _ _ (subst (λ t. length t ≤ 4096) text short)
    (subst (MayBeAdded c.args.any_text) text c.in-Some-Some.ensures.1) flawed

pub returns-in-Some-None : goal.returns-in-Some-None
returns-in-Some-None c =
    let text = c.str_without_prefix-text.ensures ∙ ap (λ (e : List ℕ × List ℕ). without_prefix e.1) c.split_line.ensures in
    let short : length c.str_without_prefix-text.result.now ≤ 4096 = grind (arith, c.if-text-gt-MAX_LEN.false) in
    let same = c.in-Some-None.ensures.0 in (
      ap (λ (e : List ℕ × List ℕ). e.0) c.split_line.ensures,
      same ∙ text,
      subst (λ t. length t ≤ 4096) (sym same) short,
      subst (MayBeAdded c.args.any_text) (sym same) c.in-Some-None.ensures.1,
      sym c.in-Some-None.ensures',
    )
