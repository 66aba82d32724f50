use Rattle.argon2.proofs.Imports.{rules, sym, ◌∙◌}
use Rattle.argon2.proofs.context.Argon2.verify_stored.Goals as goal

pub returns : goal.returns
returns c = λ v is.
    let hash = c.args.stored.now.hash.now in
    let same = sym c.eq.ensures ∙ c.if-eq.false in
    search rules
