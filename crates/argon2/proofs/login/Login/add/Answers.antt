use Rattle.argon2.proofs.Imports.{rules, ap, sym, ◌∙◌, Some, refl, string_bytes, btree_map_updates_text, phc_of, store_of, get, insert}
use Rattle.argon2.proofs.login_lemmas.Stores.{values_of-set, get-other, get-same, present, absent}
use Rattle.argon2.proofs.login.Login.add.Goals as goal

pub returns-then-contains_key-clause-step : goal.returns-then-contains_key-clause-step
returns-then-contains_key-clause-step c =
    let has = present c.args.self.now.texts c.args.name.now (sym c.contains_key.ensures ∙ c.if-contains_key.true) in
    (((phc_of c.in-Ok.parsed, c.in-Ok.ensures.found), has), refl)

pub returns-in_default-from_str-clause-step : goal.returns-in_default-from_str-clause-step
returns-in_default-from_str-clause-step c =
    let none = absent c.args.self.now.texts c.args.name.now (sym c.contains_key.ensures ∙ c.if-contains_key.false) in
    (((phc_of c.in-Ok.parsed, c.in-Ok.ensures.found), none), refl)

pub returns-in_default-insert-clause-step : goal.returns-in_default-insert-clause-step
returns-in_default-insert-clause-step c =
    let none = absent c.args.self.now.texts c.args.name.now (sym c.contains_key.ensures ∙ c.if-contains_key.false) in
    (((phc_of c.in-Ok.parsed, c.in-Ok.ensures.found), none), search rules)

pub returns : goal.returns
returns c =
    let name = c.args.name.now in
    let before = store_of c.args.self.now in
    let none = absent c.args.self.now.texts name (sym c.contains_key.ensures ∙ c.if-contains_key.false) in
    let key = c.in-Ok-from_str.key in
    let parsed = c.in-Ok.parsed in
    let sets = btree_map_updates_text (string_bytes key) c.args.self.now.texts c.insert.new.self _
    c.in-Ok-insert.ensures.updates in
    let set = values_of-set c.args.self.now.texts c.insert.new.self (string_bytes key) parsed sets
    ∙ ap (λ n. insert before n (phc_of parsed)) (search rules) in
    record {
      step = (none, phc_of parsed, c.in-Ok.ensures.found, set);
      text = λ v is. ap (λ m. get m name) set ∙ get-same before name (phc_of parsed)
          ∙ ap Some (c.in-Ok.ensures.only v is);
      inserted = λ v is. set ∙ ap (insert before name) (c.in-Ok.ensures.only v is);
      others = λ other differs. ap (λ m. get m other) set
          ∙ get-other before name (phc_of parsed) other differs;
      target = refl;
    }
