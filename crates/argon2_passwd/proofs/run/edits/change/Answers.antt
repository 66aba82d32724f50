use Rattle.argon2_passwd.proofs.Common.{[], AdmitsStored, arith, after_line, DropsThrough, err_is, Failure, inl, inr, IsNotNew, IsUnread, unwritten_keeps, List, text_read_by_bytes, None, reads_two, file_was_used, Option, policy_value, refl}
use Rattle.argon2_passwd.proofs.Common.{change_refusal_refuses, RefusesChange, Some, subst, sym, ℕ, ◌∙◌, ◌≢◌}
use Rattle.argon2_passwd.proofs.run.edits.change.Goals as goal

-- a password that is not read is not read from an unknown input either
is_unread-unknown : (rest : Option (List ℕ)) (failure : Failure) → IsUnread rest failure → IsUnread None failure
is_unread-unknown rest failure unread = grind arith

-- no new password is read from the rest of an input, so none is read after its first line
is_not_new-after_line : (input rest : Option (List ℕ)) (failure : Failure) → DropsThrough input rest 10 → IsNotNew rest failure
    → IsNotNew (after_line input) failure
is_not_new-after_line None rest failure drops (inl unread) = inl (is_unread-unknown rest failure unread)
is_not_new-after_line None rest failure drops (inr (is, empty)) = inr (is, tt)
is_not_new-after_line (Some bytes) rest failure drops refused = rw drops at refused

pub returns-in_err-second : goal.returns-in_err-second
returns-in_err-second g c output =
    let refused = is_not_new-after_line _ _ _ c.in_ok-first.ensures.rest c.in_err-second.ensures.refused in
    rw (err_is _ _ c.from_residual-in_err-second.ensures.1)
    (inr (c.requires, inr (unwritten_keeps _, inr (inr (_, c.in_ok-first.ensures.found, refused)))))

pub returns-in_err-text : goal.returns-in_err-text
returns-in_err-text g c output =
    let some : c.as_slice-second.result.now ≢ [] = rw c.as_slice-second.ensures.value c.in_ok-second.ensures.some in
    rw (err_is _ _ c.from_residual-in_err-text.ensures.1) (elim c.in_err-text.ensures [
      | inl missing ↦ inl
          (reads_two _ _ _ c.as_slice-first.ensures.value c.as_slice-second.ensures.value c.in_ok-first.ensures.rest
          c.in_ok-first.ensures.found c.in_ok-second.ensures.found (some, inl (inr missing)))
      | inr (shut, three) ↦ inr (shut, inr (unwritten_keeps _, inl three))
    ])

pub returns-in_err-renewal : goal.returns-in_err-renewal
returns-in_err-renewal g c output =
    let policy = policy_value c.args.access.now.policy.now in
    let first = c.as_slice-first.result.now in
    let second = c.as_slice-second.result.now in
    let some : c.as_slice-second.result.now ≢ [] = rw c.as_slice-second.ensures.value c.in_ok-second.ensures.some in
    let why = c.in_err-renewal.field-0.0 in
    let refuses = subst (λ o. RefusesChange policy first second o why) c.as_deref-stored.ensures.value
    (change_refusal_refuses policy first second _ _ _ why c.in_err-renewal.ensures.made) in
    rw (err_is _ _ c.from_residual-in_err-renewal.ensures.1)
    (inl (reads_two _ _ _ c.as_slice-first.ensures.value c.as_slice-second.ensures.value c.in_ok-first.ensures.rest
    c.in_ok-first.ensures.found c.in_ok-second.ensures.found (some, inl (inl (_, (why, refuses, refl), c.in_ok-text.ensures)))))

pub returns : goal.returns
returns g c output =
    let policy = policy_value c.args.access.now.policy.now in
    let (admits, made, drawn) = c.in_ok-renewal.ensures.made in
    let some : c.as_slice-second.result.now ≢ [] = rw c.as_slice-second.ensures.value c.in_ok-second.ensures.some in
    let is = c.in_ok-renewal.ensures.old in
    let looked = text_read_by_bytes c.args.name.now (sym c.as_deref-stored.ensures.value ∙ is) c.in_ok-text.ensures in
    let replaced = file_was_used looked.before looked.after looked.opened looked.does (c.edit_file.ensures _ looked.next) in
    inl (reads_two _ _ _ c.as_slice-first.ensures.value c.as_slice-second.ensures.value c.in_ok-first.ensures.rest
    c.in_ok-first.ensures.found c.in_ok-second.ensures.found (
      some,
      inr (
        _,
        _,
        _,
        c.in_ok-rng.ensures.salt,
        subst (AdmitsStored policy c.as_slice-first.result.now) is admits,
        made,
        replaced,
      ),
    ))
