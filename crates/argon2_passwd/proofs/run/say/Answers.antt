use Rattle.argon2_passwd.proofs.Common.{append-nil, err_is, refl}
use Rattle.argon2_passwd.proofs.run.say.Goals as goal

pub returns-in_err-write_line : goal.returns-in_err-write_line
returns-in_err-write_line g c =
    rw (err_is _ _ c.from_residual.ensures.1)
    ((c.in_err-write_line.field-0.0, refl), rw (c.as_bytes.ensures.value, append-nil _) at c.in_err-write_line.ensures.cut)
