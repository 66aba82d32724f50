use Rattle.std.proofs.Common.{◌∙◌, true, false, drop, ap, subst, sym}
use Rattle.std.proofs.lemmas.Str.Pattern.{starts_text}
use Rattle.std.specs.Str.{IsCharBoundary}
use Rattle.argon2_schemes.proofs.prefixes.+str_after_any.Goals as goal

pub returns-in-Some-strip_prefix : goal.returns-in-Some-strip_prefix
returns-in-Some-strip_prefix t c =
    let text = c.args.text.now in
    let strips = c.in-Some-strip_prefix.ensures.cases in
    let end = subst (λ k. IsCharBoundary text k) (sym strips.1.0) strips.1.2 in
    rw (c.in-Some.ensures.cases.0, ← starts_text true c.in-Some.prefix.now.now text (strips.0, strips.1, end))
    (strips.2 ∙ ap (λ k. drop k text) strips.1.0)

pub returns-in-None : goal.returns-in-None
returns-in-None t c =
    rw (c.in-Some.ensures.cases.0, ← starts_text false c.in-Some.prefix.now.now c.args.text.now c.in-None.ensures.cases)
    c.str_after_any.ensures
