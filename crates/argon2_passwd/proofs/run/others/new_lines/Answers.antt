use Rattle.argon2_passwd.proofs.Common.{arith, Bool, common_steps, entry_or_flaw, err_is, inl, has_text, LineValue, line_has_name, List, new_line, None, refl, ℕ, ◌||◌, ◌∙◌, ◌≡◌}
use Rattle.argon2_passwd.proofs.LookUpLemmas.{looks-then, looks_keep_names, honest_before_looks}
use Rattle.argon2_passwd.proofs.run.others.new_lines.Goals as goal

-- a new line depends only on which names are taken
new_line-same : (line : LineValue) (p q : List ℕ → Bool) → ((name : List ℕ) → p name ≡ q name) → new_line q line ≡ new_line p line
new_line-same line p q same = grind (arith, same)

-- after a line the taken names are the names of the lines so far and the names of the file
taken_names_join : (line : LineValue) (is_taken old new known : List ℕ → Bool)
    → ((name : List ℕ) → is_taken name ≡ (old name || known name))
    → ((name : List ℕ) → new name ≡ (line_has_name line name || old name))
    → (name : List ℕ) → (line_has_name line name || is_taken name) ≡ (new name || known name)
taken_names_join line is_taken old new known is more name = grind (arith, is name, more name)

pub loop-line-init : goal.loop-line-init
loop-line-init g c = (inl (refl, refl), λ known has honest. (has_text known, (λ name. grind arith), grind arith))

pub returns-in_err-unless_taken-clause-fails : goal.returns-in_err-unless_taken-clause-fails
returns-in_err-unless_taken-clause-fails g c =
    let (three, (error, looks, is)) = c.in_err-unless_taken.ensures.fails in
    rw (err_is _ _ c.from_residual.ensures.1) (three, (error, looks-then error _ _ _ c.loop-line.invariant.0 looks, is))

pub returns-in_err-push-clause-fails : goal.returns-in_err-push-clause-fails
returns-in_err-push-clause-fails g c =
    rw (err_is _ _ c.from_residual-in_err-push.ensures.1)
    (refl, (None, looks-then None _ _ _ c.loop-line.invariant.0 c.in_ok-unless_taken.ensures.looks, refl))

pub loop-line-preserved : goal.loop-line-preserved
loop-line-preserved g c =
    let (looks, made) = c.loop-line.invariant in
    let looked = c.in_ok-unless_taken.ensures.looks in (
      looks-then None _ _ _ looks looked,
      λ known has honest.
          let had = looks_keep_names None _ _ looks known has in
          let (is_taken, is, sofar) = made known has (honest_before_looks None _ _ looked known had honest) in
          let x = entry_or_flaw c.line-item.result in
          let taken_then = λ (name : List ℕ). line_has_name x name || is_taken name in
          let said = c.in_ok-unless_taken.ensures.new known had honest ∙ new_line-same x is_taken _ is in (
            taken_then,
            taken_names_join x is_taken _ _ _ is c.in_ok-unless_taken.ensures.names,
            grind (arith, common_steps),
          ),
    )
