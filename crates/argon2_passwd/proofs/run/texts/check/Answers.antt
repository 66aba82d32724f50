use Rattle.argon2_passwd.proofs.Common.{accepted_of, err_is, password_by_bytes, fresh_of, inl, inr, unwritten_keeps, refl, value_after, ◌∙◌}
use Rattle.argon2_passwd.proofs.run.texts.check.Goals as goal

pub returns-in_err-done : goal.returns-in_err-done
returns-in_err-done g c =
    let read = c.in_ok-password in
    let denied = rw c.as_slice.ensures.value at c.in_err-done.ensures.step in
    rw (err_is _ _ c.from_residual-in_err-done.ensures.1)
    (inr (unwritten_keeps _, inr (inr (read.password.items, read.ensures.found, (_, denied, refl)))))

pub returns : goal.returns
returns g c =
    let found = password_by_bytes (g.R.Read.remaining c.args.input.now) c.as_slice.ensures.value c.in_ok-password.ensures.found in
    let (v, says, logs_in) = c.in_ok-done.ensures.step in
    let said = rw (c.as_str.ensures.value ∙ c.in_ok-reply.ensures v) at c.say.ensures in
    inl (
      _,
      found,
      (
        _,
        v,
        accepted_of c.in_ok-done.done,
        value_after v (fresh_of c.in_ok-done.done),
        c.in_ok-rng.ensures.salt,
        says,
        logs_in,
        said,
      ),
    )
