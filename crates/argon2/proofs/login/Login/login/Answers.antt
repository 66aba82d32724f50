use Rattle.argon2.proofs.Imports.{refl, sym, ap, ◌∙◌, Some, None, inr, btree_map_updates_text, get, phc_of, values_of}
use Rattle.argon2.proofs.login_lemmas.Stores.{get-found, get-other, get-same, values_of-set}
use Rattle.argon2.proofs.login.Login.login.Goals as goal

pub returns-in_default-clause-step : goal.returns-in_default-clause-step
returns-in_default-clause-step g c =
    rw (get-found c.args.self.now.texts c.args.name.now None (sym c.in_default.ensures.value))
    (tt, ap values_of c.get_mut.follows.holds-at-none)

pub returns-in_default-clause-accepted : goal.returns-in_default-clause-accepted
returns-in_default-clause-accepted g c =
    inr (λ is. absurd (rw (get-found c.args.self.now.texts c.args.name.now None (sym c.in_default.ensures.value)) at is))

pub returns : goal.returns
returns g c =
    let before = c.args.self.now.texts in
    let name = c.args.name.now in
    let text = c.in-Some.text.now in
    let fresh = c.log_in_text.new.text in
    let after = c.get_mut.follows.lender fresh in
    let had = get-found before name (Some text) (sym c.in-Some.ensures.value) in
    let set = values_of-set before after name fresh (btree_map_updates_text name before after _
    ((c.get_mut.follows.holds fresh).3 (rw (← c.in-Some.ensures.value) refl))) in
    let has = ap (λ m. get m name) set ∙ get-same (values_of before) name (phc_of fresh) in
    record {
      step = rw (had, set) (c.log_in_text.ensures.step (values_of before) name had);
      accepted = rw (had, has) c.log_in_text.ensures.accepted;
      current = rw has c.log_in_text.ensures.current;
      others = λ other differs. ap (λ m. get m other) set
          ∙ get-other (values_of before) name (phc_of fresh) other differs;
      drawn = c.log_in_text.ensures.drawn;
      target = refl;
    }
