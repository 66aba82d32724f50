use Rattle.std.proofs.Common.{◌≡◌, ◌++◌, ◌+◌, List, ℕ, [], ◌∷◌, suc, length, length-append, refl, ap, ◌∙◌, subst, arith}
use Rattle.std.specs.Prelude.{drop}
use Rattle.std.proofs.lemmas.List.{append_assoc}
use Rattle.argon2_base.specs.PhcText.{phc_text}
use Rattle.argon2_c.proofs.phc.encode.argon2_c_phc_encode.Goals as goal

pub returns-clause-written : goal.returns-clause-written
returns-clause-written c = λ _.
    let old = c.args.out.now in
    let text = c.as_bytes-text.result.now in
    let first = c.put-at.ensures.appends [] old refl refl in
    let last = c.put.ensures.appends text old first.0 first.1 in
    let is = c.as_bytes-text.ensures.value ∙ c.as_str.ensures.value ∙ c.text-text.ensures.1 ∙ ap phc_text c.value_of.ensures in
    let one : length text + 1 ≡ suc (length text) = omega arith in
    subst (λ (t : List ℕ). c.put.new.out ≡ t ++ 0 ∷ drop (suc (length t)) old) is
    (last.1 ∙ append_assoc text (0 ∷ []) (drop (length (text ++ 0 ∷ [])) old)
    ∙ ap (λ n. text ++ 0 ∷ drop n old) (length-append text (0 ∷ []) ∙ one))
