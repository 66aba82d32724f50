use Rattle.argon2_base.proofs.Imports.{[], refl, sym, ◌∙◌, strict_base64, field}
use Rattle.std.proofs.lemmas.List.{append-nil}
use Rattle.argon2_base.proofs.phc_lemmas.PhcTextLemmas.{none_after}
use Rattle.argon2_base.proofs.phc.fields.salt_and_hash.Goals as goal

pub returns-in_err-hash-clause-only : goal.returns-in_err-hash-clause-only
returns-in_err-hash-clause-only c = λ s o hs ho salted e.
    let f = c.in_ok-salt.ensures.only s (field strict_base64 o) hs (none_after s o salted) e in
    absurd (c.in_err-hash.ensures.only o [] ho (λ _. refl) (f.1 ∙ sym (append-nil (field strict_base64 o))))
