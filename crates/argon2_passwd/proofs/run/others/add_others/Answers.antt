use Rattle.argon2_passwd.proofs.Common.{[], arith, common_steps, err_is, inl, inr, ◌≡◌}
use Rattle.argon2_passwd.proofs.LookUpLemmas.{looks_then_add_entries}
use Rattle.argon2_passwd.proofs.run.others.add_others.Goals as goal

pub returns-in_err-add_new : goal.returns-in_err-add_new
returns-in_err-add_new g c =
    let (three, e, serves, is) = rw c.as_slice-2.ensures.value at c.in_err-add_new.ensures.err in
    let split = rw c.as_slice.ensures.value at c.in_ok-entries.ensures in
    rw (err_is _ _ c.from_residual-in_err-add_new.ensures.1)
    (inr (three, inr (e, _, looks_then_add_entries _ _ _ c.in_ok-new.ensures.looks serves split c.in_ok-new.ensures.new, is)))

pub returns-then-is_empty : goal.returns-then-is_empty
returns-then-is_empty g c =
    let serves = rw c.as_slice-2.ensures.value at c.in_ok-add_new.ensures.ok in
    let split = rw c.as_slice.ensures.value at c.in_ok-entries.ensures in
    let none : c.in_ok-entries.passed.items ≡ [] = grind (arith, common_steps) in
    rw (← none) (looks_then_add_entries _ _ _ c.in_ok-new.ensures.looks serves split c.in_ok-new.ensures.new)

pub returns : goal.returns
returns g c =
    let serves = rw c.as_slice-2.ensures.value at c.in_ok-add_new.ensures.ok in
    let split = rw c.as_slice.ensures.value at c.in_ok-entries.ensures in
    inl (
      (λ none. absurd {0} (grind (arith, common_steps))),
      looks_then_add_entries _ _ _ c.in_ok-new.ensures.looks serves split c.in_ok-new.ensures.new,
    )
