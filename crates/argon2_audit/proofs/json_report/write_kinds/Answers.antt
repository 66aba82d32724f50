use Rattle.std.proofs.Common.{arith, ◌∙◌, [], ◌∷◌, append_assoc}
use Rattle.json.specs.Json.{no_items}
use Rattle.json.specs.Token.{begin_array}
use Rattle.json.specs.Tree.{items_tokens}
use Rattle.argon2_audit.proofs.Objects.{OnOk-token, HasItems-item, HasItems-none}
use Rattle.argon2_audit.proofs.json_report.write_kinds.Goals as goal

pub loop-kind-init : goal.loop-kind-init
loop-kind-init c = (c.begin_array.ensures.room.0, HasItems-none c.in_ok-begin_array.ensures.ok)

pub loop-kind-preserved : goal.loop-kind-preserved
loop-kind-preserved c =
    let added = c.in_ok-write_object.ensures in
    (added.adds.before ∙ c.loop-kind.invariant.0, HasItems-item added c.loop-kind.invariant.1)

pub returns : goal.returns
returns c =
    let has = c.loop-kind.invariant.1 in
    OnOk-token c.end_array.ensures (λ last. (
      has.all no_items,
      record {
        adds = record {
          before = last.before ∙ c.loop-kind.invariant.0;
          tokens = last.tokens ∙ has.reads no_items
              ∙ append_assoc c.args.json.now.tokens (begin_array ∷ []) (items_tokens (has.all no_items));
        };
        flat = has.are no_items (tt, omega arith);
      },
    ))
