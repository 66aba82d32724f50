use Rattle.std.proofs.Common.{rules}
use Rattle.std.proofs.lemmas.List.{take_rest}
use Rattle.std.proofs.KnownBytes.{Appends-kept}
use Rattle.argon2_io.proofs.Prefixes.{first_are_prefix, first_and_next}
use Rattle.argon2_io.proofs.line.write_bytes.Goals.{in-Ok, in-Err, else-pieces-test, then-pieces-test+else-written-bytes+in-Ok-eq0}
use Rattle.argon2_io.proofs.line.write_bytes.Goals as goal

-- src/line.rt:39:23
pub returns-in-Err-2-clause-cut : goal.returns-in-Err-2-clause-cut
returns-in-Err-2-clause-cut g c =
    first_are_prefix _ _ _ _ (Appends-kept _ _ _ _ c.pieces.invariant.1 c.in-Err.ensures.bytes)

-- src/line.rt:31:5
pub pieces-preserved : goal.pieces-preserved
pieces-preserved g c =
    let before = c.pieces.invariant in
    elim c.match-write.branch [
      | in-Ok w ↦ rw w.written-is (search rules, first_and_next _ _ _ _ _ _ before.1 (rw take_rest at w.in-Ok.ensures.bytes))
      | in-Err w ↦ rw w.written-is (before.0, Appends-kept _ _ _ _ before.1 w.in-Err.ensures.bytes)
    ]

-- src/line.rt:25:1
pub returns-clause-cut : goal.returns-clause-cut
returns-clause-cut g c =
    let before = c.pieces.invariant in
    elim c.pieces-test.branch [
      | else-pieces-test w ↦ rw w.writer-is (first_are_prefix _ _ _ _ before.1)
      | then-pieces-test+else-written-bytes+in-Ok-eq0 w ↦
          rw w.writer-is (first_are_prefix _ _ _ _ (first_and_next _ _ _ _ _ _ before.1
          (rw (w.in-Ok-eq0.is, take_rest) at w.write.ensures.bytes)))
    ]
