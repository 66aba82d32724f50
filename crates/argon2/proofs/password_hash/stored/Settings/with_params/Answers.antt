use Rattle.argon2.proofs.Imports.{arith, rules}
use Rattle.argon2.proofs.params_lemmas.Named.{version_numbered-no}
use Rattle.argon2.proofs.password_hash.stored.Settings.with_params.Goals as goal

pub returns-in_err-version-in-Some : goal.returns-in_err-version-in-Some
returns-in_err-version-in-Some c =
    let none = version_numbered-no c.in-Some.number c.in_err-version-in-Some.ensures.1 in
    search rules

pub returns : goal.returns
returns c = grind arith
