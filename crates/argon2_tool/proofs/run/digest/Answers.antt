use Rattle.std.proofs.Common.{arith, rules, ◌≡◌, ◌∙◌, ◌++◌, take, refl, append-nil, string_bytes}
use Rattle.std.proofs.lemmas.Grind.{common_steps}
use Rattle.std.proofs.KnownBytes.{Consumes-kept, Consumes-trans, Consumes-whole}
use Rattle.argon2_base.specs.Blake2b.{blake2b}
use Rattle.hex.specs.Hex.{encode_lower}
use Rattle.argon2_tool.proofs.run.digest.Goals.{in-Ok, in-Err}
use Rattle.argon2_tool.proofs.run.digest.Goals as goal

pub returns-in-Ok-eq0-clause-ok : goal.returns-in-Ok-eq0-clause-ok
returns-in-Ok-eq0-clause-ok g c =
    let (read, holds, consumed) = c.pieces.invariant.3 in
    let last = rw (c.in-Ok-eq0.is, c.in-Ok-eq0.field-0-test) at c.read.ensures.bytes in
    let all = Consumes-trans _ _ _ _ _ consumed last.0 in
    let text = c.in_ok-text-in-Ok-eq0.text in
    let digest : string_bytes text ≡ encode_lower (blake2b c.args.len read) =
    grind (arith, common_steps, c.finalize_into.ensures read holds) in
    Consumes-whole _ _ _ (λ message. string_bytes text ≡ encode_lower (blake2b c.args.len message))
    (rw append-nil at all) (last.1 refl (omega arith)) digest

pub pieces-preserved : goal.pieces-preserved
pieces-preserved g c =
    let before = c.pieces.invariant in
    elim c.match-read.branch [
      | in-Ok w ↦
          rw w.hasher-is (
            w.update.ensures.digest_len ∙ before.0,
            search rules,
            search rules,
            (
              before.3.0 ++ take w.in-Ok.count c.read.new.buf,
              w.update.ensures.holds _ before.3.1,
              Consumes-trans _ _ _ _ _ before.3.2 w.in-Ok.ensures.bytes.0,
            ),
          )
      | in-Err w ↦
          rw w.hasher-is (
            before.0,
            omega arith,
            search rules,
            (before.3.0, before.3.1, Consumes-kept _ _ _ _ before.3.2 w.in-Err.ensures.bytes),
          )
    ]
