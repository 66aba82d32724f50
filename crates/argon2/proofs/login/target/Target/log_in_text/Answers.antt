use Rattle.argon2.proofs.Imports.{inl, refl, rules, sym, Err, fill_bytes, phc_of, secret_of, target_value}
use Rattle.argon2.proofs.login_lemmas.LoginLemmas.{refused_text, text_left}
use Rattle.argon2.proofs.login_lemmas.Stores.{insert-same}
use Rattle.argon2.proofs.password_hash_lemmas.Verified.{exact}
use Rattle.argon2.proofs.login.target.Target.log_in_text.Goals as goal

pub returns-in-Err-clause-step : goal.returns-in-Err-clause-step
returns-in-Err-clause-step g c = λ store name has.
    (inl (rw (← c.in-Err.ensures) refl), insert-same store name (phc_of c.args.text.now) has)

pub returns-in-Err-log_in-clause-step : goal.returns-in-Err-log_in-clause-step
returns-in-Err-log_in-clause-step g c = λ store name has.
    let v = phc_of c.args.text.now in
    (c.in-Err-log_in.ensures.step v (sym c.in-Ok.ensures), insert-same store name v has)

pub returns-in-Err-log_in-clause-accepted : goal.returns-in-Err-log_in-clause-accepted
returns-in-Err-log_in-clause-accepted g c =
    let v = phc_of c.args.text.now in
    refused_text c.in-Err-log_in.e (exact (secret_of c.args.self.now.argon2) c.args.password.now v
    (Err c.in-Err-log_in.e)
    (c.in-Err-log_in.ensures.step v (sym c.in-Ok.ensures)))

pub returns-in_default : goal.returns-in_default
returns-in_default g c =
    let v = phc_of c.args.text.now in
    let step = rw c.in_default.is at (c.in-Ok-log_in.ensures.step v (sym c.in-Ok.ensures)) in
    let left = text_left (target_value c.args.self.now) c.args.self.now.fits c.args.password.now _ v v
    c.in-Ok-log_in.done.accepted step in
    record { step = left.0; accepted = left.1; current = left.2; drawn = search rules }

pub returns : goal.returns
returns g c =
    let v = phc_of c.args.text.now in
    let step = rw c.in-Some.is at (c.in-Ok-log_in.ensures.step v (sym c.in-Ok.ensures)) in
    let left = text_left (target_value c.args.self.now) c.args.self.now.fits c.args.password.now
    (fill_bytes 16 (g.R.Rng.stream c.args.rng.now)).0 v (phc_of c.in-Some.fresh) c.in-Ok-log_in.done.accepted step in
    record { step = left.0; accepted = left.1; current = left.2; drawn = search rules }
