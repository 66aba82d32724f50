use Rattle.std.specs.Prelude.{◌&&◌, not}
use Rattle.argon2_passwd.proofs.Common.{ap, arith, after_lock, Bor, is_some, List, Option, option_copied, refl, scheme_of, unwrap_or, without_lock, ℕ, ◌∙◌, ◌≡◌}
use Rattle.argon2_passwd.specs.Lines.{has_field}
use Rattle.argon2_passwd.proofs.entries.has_scheme.Goals.{After-scheme_of}
use Rattle.argon2_passwd.proofs.entries.has_scheme.Goals as goal

-- the text after a lock, or the whole text without a lock
rest_is_without_lock : (text : List ℕ) (r : Option (Bor (List ℕ))) (whole : Bor (List ℕ)) → option_copied r ≡ after_lock text
    → whole.now ≡ text → (unwrap_or r whole).now ≡ without_lock text
rest_is_without_lock text r whole same is = grind arith

-- the text that the scheme is asked of has no lock
text_is_without_lock : (c : After-scheme_of) → c.as_bytes-text.result.now ≡ without_lock c.args.text.now
text_is_without_lock c = c.as_bytes-text.ensures.value ∙ ap (λ (b : Bor (List ℕ)). b.now) c.unwrap_or.ensures
    ∙ rest_is_without_lock _ c.after_lock.result _ c.after_lock.ensures refl

-- its scheme is the scheme of the text without a lock
scheme_is_of_rest : (c : After-scheme_of) → is_some c.scheme_of.result ≡ is_some (scheme_of (without_lock c.args.text.now))
scheme_is_of_rest c = ap is_some (c.scheme_of.ensures ∙ ap scheme_of (text_is_without_lock c))

pub returns-then-is_some : goal.returns-then-is_some
returns-then-is_some c =
    let at = (goal.at.returns-then-is_some c).After-scheme_of in
    ap not (c.has_field.ensures ∙ ap has_field (text_is_without_lock at))
    ∙ ap (λ b. b && not (has_field (without_lock c.args.text.now))) (c.if-is_some.ensures ∙ scheme_is_of_rest at)

pub returns-else-is_some : goal.returns-else-is_some
returns-else-is_some c =
    let at = (goal.at.returns-else-is_some c).After-scheme_of in
    c.if-is_some.false ∙ ap (λ b. b && not (has_field (without_lock c.args.text.now)))
    (c.if-is_some.ensures ∙ scheme_is_of_rest at)
