use Rattle.argon2_passwd.proofs.Common.{Err, err_is, password_by_bytes, inl, inr, unwritten_keeps, Ok, refl}
use Rattle.argon2_passwd.proofs.run.accounts.verify.Goals as goal

pub returns-in_err-accepted : goal.returns-in_err-accepted
returns-in_err-accepted g c =
    let found = password_by_bytes (g.R.Read.remaining c.args.input.now) c.as_slice.ensures.value c.in_ok-password.ensures.found in
    rw (err_is _ _ c.from_residual-in_err-accepted.ensures.1)
    (elim c.in_err-accepted.ensures [
      | inl login ↦ inl (Err _, (refl, unwritten_keeps _), (_, found, login))
      | inr (shut, three) ↦ inr (shut, inr (unwritten_keeps _, inl three))
    ])

pub returns : goal.returns
returns g c =
    let found = password_by_bytes (g.R.Read.remaining c.args.input.now) c.as_slice.ensures.value c.in_ok-password.ensures.found in
    let said = rw c.as_str.ensures at c.say.ensures in
    elim c.in_ok-accepted.ensures [
      | inl login ↦ inl (Ok c.in_ok-accepted.accepted, said, (_, found, login))
      | inr (shut, never) ↦ absurd never
    ]
