use Rattle.argon2_passwd.proofs.Common.{err_is, inl, inr, unwritten_keeps}
use Rattle.argon2_passwd.proofs.run.answer.Goals as goal

pub returns-in_err-policy : goal.returns-in_err-policy
returns-in_err-policy g c =
    rw (err_is _ _ c.from_residual-in_err-policy.ensures.1)
    (elim c.in_err-policy.ensures.err [
      | inl three ↦ inl (c.requires, three, unwritten_keeps _)
      | inr (is, unsound) ↦
          inr (_, _, c.in_ok-current.ensures.ok, c.in_ok-old.ensures.ok, inl (c.requires, unsound, is, unwritten_keeps _))
    ])

pub returns : goal.returns
returns g c =
    inr (_, _, c.in_ok-current.ensures.ok, c.in_ok-old.ensures.ok, rw (← c.in_ok-policy.ensures.ok) (inr c.serve.ensures))
