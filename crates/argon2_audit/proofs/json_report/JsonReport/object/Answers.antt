use Rattle.std.proofs.Common.{arith, rules, ◌≡◌, ◌∙◌, ◌++◌, ap, List}
use Rattle.std.proofs.Math.Logic.{∥∥₁_map}
use Rattle.json.specs.Json.{document, no_items}
use Rattle.json.specs.Print.{print}
use Rattle.json.specs.Token.{Token}
use Rattle.json.specs.Tree.{json_tokens}
use Rattle.json.specs.Written.{Written}
use Rattle.json.proofs.Printed.Trees.{document-print}
use Rattle.argon2_audit.specs.Object.{Adds, members_now, object_of}
use Rattle.argon2_audit.proofs.Objects.{Adds-append, Adds-token}
use Rattle.argon2_audit.proofs.json_report.JsonReport.object.Goals as goal

-- what is added to known tokens stands after them
Adds-after : {old new : Written} {front added : List Token} → Adds old new added → old.tokens ≡ front
    → new.tokens ≡ front ++ added
Adds-after {added = added} adds is = adds.tokens ∙ ap (λ tokens. tokens ++ added) is

pub returns : goal.returns
returns c =
    ∥∥₁_map (c.args.self.whole (search rules)) (λ has.
    let counts = c.in_ok-write_counts.ensures in
    let schemes = c.in_ok-write_object.ensures in
    let table = c.in_ok-write_kinds.ensures in
    let added = Adds-append (Adds-token c.key.ensures c.in_ok-key.ensures.ok) (Adds-append counts.adds
    (Adds-append (Adds-token c.key-2.ensures c.in_ok-key-2.ensures.ok) (Adds-append schemes.adds
    (Adds-append (Adds-token c.key-3.ensures c.in_ok-key-3.ensures.ok) (Adds-append table.1.adds
    (Adds-token c.end_object.ensures c.in_ok-end_object.ensures.ok)))))) in
    let are = has.1.are no_items (tt, omega arith) in
    let members = members_now c.as_slice.result.now in
    let whole = object_of c.args.session.now.tally (has.1.all no_items) members table.0 in
    let tokens : c.end_object.new.self.tokens ≡ json_tokens whole =
    Adds-after added (c.in_ok-end_array.ensures.ok ∙ has.1.reads no_items) in
    let text : c.into_inner.result.items ≡ print (json_tokens whole) =
    c.into_inner.ensures.items ∙ ap (λ before. before ++ print c.end_object.new.self.tokens)
    (added.before ∙ c.end_array.ensures.room.0 ∙ has.0) ∙ ap print tokens in (
      has.1.all no_items,
      members,
      table.0,
      ap document text
          ∙ document-print whole (are.0, (counts.flat.0, (schemes.flat.0, (table.1.flat.0, tt)))) (omega arith),
    ))
