use Rattle.std.proofs.Common.{◌≡◌, ◌∷◌, [], false, codes}
use Rattle.argon2_schemes.specs.Prefixes.{begins_any, after_django}
use Rattle.argon2_schemes.proofs.prefixes.str_without_prefix.Goals as goal

pub returns-else-begins_any : goal.returns-else-begins_any
returns-else-begins_any c =
    let is : begins_any (codes "$" ∷ []) (after_django c.args.text.now) ≡ false =
    rw (← c.str_after_any-rest.ensures, ← c.as_bytes.ensures.value, ← c.begins_any.ensures) c.if-begins_any.false in
    rw (is) c.str_after_any.ensures
