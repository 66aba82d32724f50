use Rattle.argon2.proofs.Imports.{ap, sym, ◌∙◌, empty, with_texts, named_values}
use Rattle.argon2.proofs.login_lemmas.Stores.{added-values_of, entries-values_of}
use Rattle.argon2.proofs.login.Login.texts.Goals as goal

pub returns-clause-texts : goal.returns-clause-texts
returns-clause-texts c =
    ap named_values c.iter.ensures.rest ∙ sym (entries-values_of c.args.self.now.texts c.iter.ensures.ordered)

pub returns-clause-again : goal.returns-clause-again
returns-clause-again c = ap (λ items. with_texts (named_values items) empty) c.iter.ensures.rest
    ∙ added-values_of c.args.self.now.texts c.iter.ensures.ordered
