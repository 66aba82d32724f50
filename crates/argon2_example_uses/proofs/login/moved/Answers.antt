use Rattle.std.proofs.Common.{rules, ◌≡◌, None, Err, ap, ◌∙◌}
use Rattle.std.specs.FinMap.{get}
use Rattle.argon2.specs.PhcFields.{phc_of}
use Rattle.argon2.specs.Login.{store_of}
use Rattle.argon2.specs.NamedTexts.{named_values}
use Rattle.argon2.specs.TextHashing.{target_of}
use Rattle.argon2_example_uses.proofs.Stores.{add_refuses_new, entries_are_new_in, refused_as}
use Rattle.argon2_example_uses.proofs.login.moved.Goals as goal

pub loop-name-init : goal.loop-name-init
loop-name-init c =
    let same = c.into_iter-name-iterator.ensures.into_iter_gives in
    let start = c.in-Ok.ensures.2 in
    record {
      texts = search rules;
      names = entries_are_new_in _ (store_of c.args.store.now) _
          (ap named_values same ∙ c.texts-name-items.ensures.texts) start;
      target = c.in-Ok.ensures.1;
      fits = search rules;
    }

pub returns-in_err-add-clause-refused : goal.returns-in_err-add-clause-refused
returns-in_err-add-clause-refused c =
    let target = target_of c.args.target in
    let before = store_of c.loop-name.new in
    let new : get before c.deref.result.now ≡ None = search rules in
    refused_as target c.from_residual.result c.in_err-add.field-0.0 c.from_residual.ensures
    (add_refuses_new target before c.deref.result.now c.as_str.result.now (phc_of c.in-Some.text.now)
    (Err c.in_err-add.field-0.0) (store_of c.add.new.self) (search rules) new c.loop-name.invariant.fits
    c.in_err-add.ensures.step)
