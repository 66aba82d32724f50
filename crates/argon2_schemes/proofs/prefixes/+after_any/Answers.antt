use Rattle.std.proofs.Common.{◌≡◌, ◌∙◌, false, ap, sym}
use Rattle.argon2_schemes.specs.Prefixes.{begins}
use Rattle.argon2_schemes.proofs.prefixes.+after_any.Goals as goal

pub returns-then-not-starts_with : goal.returns-then-not-starts_with
returns-then-not-starts_with t c =
    let starts : begins c.args.text.now c.in-Some.prefix.now.now ≡ false =
    ap (begins c.args.text.now) (sym c.as_bytes.ensures.value) ∙ sym c.starts_with.ensures.value ∙ c.if-not-starts_with.true in
    rw (c.in-Some.ensures.cases.0, starts) c.after_any.ensures
