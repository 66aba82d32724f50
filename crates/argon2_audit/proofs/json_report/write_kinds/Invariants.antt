use Rattle.std.proofs.Common.{◌≡◌, [], ◌∷◌, ◌++◌}
use Rattle.json.specs.Token.{begin_array}
use Rattle.argon2_audit.specs.Object.{HasItems}
use Rattle.argon2_audit.proofs.json_report.write_kinds.Given as goal

abbrev pub invariant-loop-kind : goal.invariant-loop-kind
invariant-loop-kind l =
    (l.json.before ≡ l.fn.json.before) × HasItems (l.fn.json.tokens ++ begin_array ∷ []) l.json.tokens
