use Rattle.argon2.proofs.Imports.{Ok, ap, ◌∙◌, arith, context_under, mixing_calls, TargetValue}
use Rattle.argon2.proofs.context_lemmas.Refusing.{answered}
use Rattle.argon2.proofs.context.Argon2.hash_password_into_watched.Goals as goal

pub returns-clause-answer : goal.returns-clause-answer
returns-clause-answer c =
    let same_data = ap (λ (target : TargetValue). target.settings.parameters.associated) c.self.view_is in
    let mixings = ap (λ bytes. mixing_calls (context_under c.args.self.now bytes)) (c.data.ensures.value ∙ same_data) in
    ap Ok (c.into_work.ensures.work ∙ c.in_ok-hash.ensures.count ∙ omega arith) ∙ answered _ _ _ _ c.in_ok-hash.ensures.answer

pub returns-clause-positions : goal.returns-clause-positions
returns-clause-positions c = grind arith
