use Rattle.std.proofs.Common.{rules}
use Rattle.argon2.specs.TextHashing.{drawn_salt}
use Rattle.argon2.specs.PhcFields.{phc_of}
use Rattle.argon2.specs.Login.{store_of}
use Rattle.argon2.specs.TextHashing.{target_of}
use Rattle.argon2.proofs.login_lemmas.LoginLemmas.{hash_made}
use Rattle.argon2_example_uses.proofs.Stores.{add_gives, add_refuses, hashed_ok}
use Rattle.argon2_example_uses.proofs.login.register.Goals as goal

pub returns-clause-refused : goal.returns-clause-refused
returns-clause-refused g c =
    let target = target_of c.args.argon2.now in
    let password = c.args.password.now in
    let salt = (drawn_salt (g.R.Rng.stream c.args.rng.now)) in
    add_refuses target c.args.store.now c.args.name.now password salt c.as_str.result.now (phc_of c.in-Ok.hash)
    c.add.result (store_of c.add.new.self) (search rules)
    (hashed_ok target password salt c.in-Ok.hash c.in-Ok.ensures.answer) c.add.ensures.step

pub returns-clause-text : goal.returns-clause-text
returns-clause-text g c =
    add_gives c.add.result _ c.as_str.result.now (phc_of c.in-Ok.hash) _ (search rules)
    (hash_made (target_of c.args.argon2.now) c.args.password.now
    (drawn_salt (g.R.Rng.stream c.args.rng.now)) c.in-Ok.hash c.in-Ok.ensures.answer)
    c.add.ensures.text
