use Rattle.std.proofs.Common.{arith, inl, inr}
use Rattle.argon2_rows.proofs.TableLemmas.{err_is}
use Rattle.argon2_example_service.proofs.service.sign_up.Goals as goal

pub returns-in_err-register : goal.returns-in_err-register
returns-in_err-register g c before has =
    let it = c.in_err-register.ensures.names before has in
    (it.0, it.1, λ honest. rw (err_is c.from_residual.result _ c.from_residual.ensures.1) (inl (it.2 honest)))

pub returns-in_err-checkpoint : goal.returns-in_err-checkpoint
returns-in_err-checkpoint g c before has =
    let it = c.in_ok-register.ensures.names before has in
    let kept = c.in_err-checkpoint.ensures.call it.0 it.1 in
    let failed = c.from_residual-in_err-checkpoint in (
      it.0,
      kept.has,
      λ honest. rw (err_is failed.result _ failed.ensures.1) (inr (it.2 (omega (arith, honest, kept.quiet.clean)))),
    )

pub returns : goal.returns
returns g c before has =
    let it = c.in_ok-register.ensures.names before has in
    let kept = c.in_ok-checkpoint.ensures.call it.0 it.1 in
    (it.0, kept.has, λ honest. it.2 (omega (arith, honest, kept.quiet.clean)))
