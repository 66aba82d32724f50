use Rattle.argon2.proofs.Imports.{ap, sym, ◌∙◌, option_map, phc_of}
use Rattle.argon2.proofs.login_lemmas.Stores.{get-values_of}
use Rattle.argon2.proofs.login.Login.text_of.Goals as goal

pub returns : goal.returns
returns c = ap (option_map phc_of) c.get.ensures.value ∙ sym (get-values_of c.args.self.now.texts c.args.name.now)
