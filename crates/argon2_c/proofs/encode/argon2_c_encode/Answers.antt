use Rattle.std.proofs.Common.{◌≡◌, ◌++◌, ◌+◌, List, ℕ, [], ◌∷◌, codes, suc, length, length-append, refl, ap, ◌∙◌, subst, arith}
use Rattle.std.specs.Prelude.{drop}
use Rattle.std.proofs.lemmas.Bool.Decides.{nat_tests}
use Rattle.std.proofs.lemmas.List.{append_assoc}
use Rattle.argon2_base.specs.Texts.{strict_base64}
use Rattle.argon2_c.proofs.Lengths.{length-text}
use Rattle.argon2_c.proofs.encode.argon2_c_encode.Goals as goal

pub returns-then-text_len-out-clause-answer : goal.returns-then-text_len-out-clause-answer
returns-then-text_len-out-clause-answer c =
    let long = length-text _ _ c.args.salt.now c.args.tag.now c.prefix-prefix.ensures in
    grind (arith, nat_tests, long, ap length c.as_str.ensures.value)

pub returns-clause-answer : goal.returns-clause-answer
returns-clause-answer c =
    let long = length-text _ _ c.args.salt.now c.args.tag.now c.prefix-prefix.ensures in
    grind (arith, nat_tests, long, ap length c.as_str.ensures.value)

pub returns-clause-written : goal.returns-clause-written
returns-clause-written c = λ _.
    let old = c.args.out.now in
    let front = c.as_bytes.result.now in
    let begins = rw c.in-Some.ensures.found at c.prefix-prefix.ensures in
    let salt = strict_base64 c.args.salt.now in
    let tag = strict_base64 c.args.tag.now in
    let w1 = c.put-at.ensures.appends [] old refl refl in
    let w2 = c.put_base64-at.ensures.appends front old w1.0 w1.1 in
    let w3 = c.put-at-2.ensures.appends (front ++ salt) old w2.0 w2.1 in
    let w4 = c.put_base64-at-2.ensures.appends ((front ++ salt) ++ codes "$") old w3.0 w3.1 in
    let text = ((front ++ salt) ++ codes "$") ++ tag in
    let w5 = c.put.ensures.appends text old w4.0 w4.1 in
    let is = append_assoc (front ++ salt) (codes "$") tag ∙ append_assoc front salt (36 ∷ tag)
    ∙ ap (λ f. f ++ (salt ++ 36 ∷ tag)) (c.as_bytes.ensures.value ∙ c.as_str-2.ensures.value)
    ∙ begins (salt ++ 36 ∷ tag) in
    let one : length text + 1 ≡ suc (length text) = omega arith in
    subst (λ (t : List ℕ). c.put.new.out ≡ t ++ 0 ∷ drop (suc (length t)) old) is
    (w5.1 ∙ append_assoc text (0 ∷ []) (drop (length (text ++ 0 ∷ [])) old)
    ∙ ap (λ n. text ++ 0 ∷ drop n old) (length-append text (0 ∷ []) ∙ one))
