use Rattle.std.proofs.Common.{◌≡◌, [], ◌++◌, Some, append-nil, arith, refl}
use Rattle.std.proofs.lemmas.Grind.{common_steps}
use Rattle.json.specs.Json.{document}
use Rattle.json.specs.Lex.{tokens}
use Rattle.json.specs.Tree.{json_tokens}
use Rattle.json.proofs.Printed.Trees.{value-json_tokens}
use Rattle.argon2_calibrate.specs.Answer.{json_of}
use Rattle.argon2_calibrate.proofs.run.write_json.Goals as goal

pub returns : goal.returns
returns g c =
    let json = json_of c.args.found c.args.p in
    let items = c.into_inner-text.result.items in
    let read : tokens items ≡ json_tokens json ++ [] = grind (arith, common_steps) in
    let text : document items ≡ Some json = rw (read, value-json_tokens json 128 [] (omega arith)) refl in
    (items, text, rw (c.as_slice.ensures.value, append-nil items) at c.in_ok-write_line.ensures.written)
