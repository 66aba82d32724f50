use Rattle.argon2_passwd.proofs.Common.{[], arith, Bor, entry_or_flaw, Flaw, inl, inr, ReportsFirst, unwritten_keeps, List, map, None, file_was_used, Option, option_copied, refl, read_lines_are_said, slice_get, Some, sym}
use Rattle.argon2_passwd.proofs.Common.{ℕ, ◌∙◌, ◌∷◌, ◌≡◌}
use Rattle.argon2_passwd.specs.declared.failure.Failure.TheVariants.{Line}
use Rattle.argon2_passwd.proofs.run.accounts.import.Goals as goal

-- the failure with the first flaw reports the first flaw
first_flaw_is_reported : (flaws : List (ℕ × Flaw)) (r : Option (Bor (ℕ × Flaw))) (first : Bor (ℕ × Flaw))
    → option_copied r ≡ slice_get flaws 0
    → r ≡ Some first → ReportsFirst flaws (Line first.now.0 first.now.1)
first_flaw_is_reported flaws r first is some = grind arith

-- without a first flaw there are no flaws
no_first_flaw_means_none : (flaws : List (ℕ × Flaw)) (r : Option (Bor (ℕ × Flaw))) → option_copied r ≡ slice_get flaws 0
    → r ≡ None → flaws ≡ []
no_first_flaw_means_none [] r is none = refl
no_first_flaw_means_none (flaw ∷ flaws) r is none = let never = rw none at is in absurd cc

pub returns-in-Some : goal.returns-in-Some
returns-in-Some g c output =
    let said = map entry_or_flaw c.in_ok-lines.lines.items in
    let lines = read_lines_are_said (g.R.Read.remaining c.args.input.now) c.args.any_text c.in_ok-bytes.bytes.items said
    c.in_ok-bytes.ensures.ok (rw c.as_slice.ensures.value at c.in_ok-lines.ensures) in
    let split = rw c.as_slice-2.ensures.value at c.in_ok-entries.ensures in
    let first = rw c.deref.ensures.value at c.first.ensures.value in
    let flaw = first_flaw_is_reported _ c.first.result _ first c.in-Some.is in
    inr (c.requires, inr (unwritten_keeps _, inr (said, lines, rw (← split.1) flaw)))

pub returns : goal.returns
returns g c output =
    let said = map entry_or_flaw c.in_ok-lines.lines.items in
    let lines = read_lines_are_said (g.R.Read.remaining c.args.input.now) c.args.any_text c.in_ok-bytes.bytes.items said
    c.in_ok-bytes.ensures.ok (rw c.as_slice.ensures.value at c.in_ok-lines.ensures) in
    let split = rw c.as_slice-2.ensures.value at c.in_ok-entries.ensures in
    let none = no_first_flaw_means_none _ c.first.result (rw c.deref.ensures.value at c.first.ensures.value) c.in_default.is in
    let adds = rw (c.as_slice-3.ensures.value, split.0) at c.add_all-added.ensures in
    let closed = rw c.into_store.ensures at c.close.ensures [] _ _ (c.in_ok-accounts.ensures.opened [] c.requires) in
    inl (unwritten_keeps _, (said, lines, (sym split.1 ∙ none, file_was_used _ _ c.in_ok-accounts.ensures.ok adds closed)))
