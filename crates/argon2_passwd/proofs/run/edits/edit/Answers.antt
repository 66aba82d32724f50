use Rattle.argon2_passwd.proofs.Common.{[], arith, inl, inr, unwritten_keeps, None, ◌≡◌}
use Rattle.argon2_passwd.specs.Lines.{name_flaw}
use Rattle.argon2_passwd.proofs.run.edits.edit.Goals as goal

pub returns-in_ok-text-in-Register : goal.returns-in_ok-text-in-Register
returns-in_ok-text-in-Register g c output =
    let fits : name_flaw c.args.name.now ≡ None = grind arith in
    rw c.in-Register.is (elim (c.edit_file.ensures [] c.requires) [
      | inl applied ↦ inl (unwritten_keeps _, (fits, _, c.in_ok-text-in-Register.ensures.ok, applied))
      | inr (shut, why) ↦ inr (shut, grind arith)
    ])

pub returns-in_ok-text-in-Set : goal.returns-in_ok-text-in-Set
returns-in_ok-text-in-Set g c output =
    rw c.in-Set.is (elim (c.edit_file-in-Set.ensures [] c.requires) [
      | inl applied ↦ inl (unwritten_keeps _, (_, c.in_ok-text-in-Set.ensures.ok, applied))
      | inr (shut, why) ↦ inr (shut, grind arith)
    ])
