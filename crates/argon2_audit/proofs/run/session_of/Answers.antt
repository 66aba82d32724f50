use Rattle.std.proofs.Common.{arith, rules, ◌≡◌, false, true, sym, IsFalse, ◌∙◌, ◌++◌, List, ℕ, [], append-nil, append_assoc, take}
use Rattle.std.proofs.KnownBytes.{Consumes-kept, Consumes-trans}
use Rattle.std.specs.Io.KnownBytes.{Keeps}
use Rattle.argon2_audit.specs.Audit.{IsBefore}
use Rattle.argon2_audit.specs.declared.options.Options.{Options}
use Rattle.argon2_audit.specs.declared.session.Session.{Session}
use Rattle.argon2_audit.proofs.run.session_of.Goals.{in-Ok+in_ok-add-in-Ok, in-Err, then-shows_progress+then-turn, else-shows_progress}
use Rattle.argon2_audit.proofs.run.session_of.Goals as goal

-- a session that has read all bytes so far comes before the next piece
IsBefore-piece : {options : Options} {session : Session} {read : List ℕ} (piece : List ℕ) → IsBefore options session read []
    → IsBefore options session (read ++ piece) piece
IsBefore-piece piece b =
    record { lines = b.lines; rest = b.rest; split = rw b.split (simp (append-nil, append_assoc)); at = b.at }

pub pieces-preserved : goal.pieces-preserved
pieces-preserved g c =
    let before = c.pieces.invariant in
    let (read, taken, consumed) = before.2 in
    let quiet : IsFalse c.args.shows_progress
    → Keeps (g.E.Write.contents c.args.errors.now) (g.E.Write.contents c.if-shows_progress.errors)
    = λ silent. elim c.if-shows_progress.branch [
      | then-shows_progress+then-turn w ↦ absurd (let clash : false ≡ true = sym silent ∙ w.if-shows_progress.true in cc)
      | else-shows_progress w ↦ rw w.errors-is (before.3 silent)
    ] in
    elim c.match-read.branch [
      | in-Ok+in_ok-add-in-Ok w ↦
          let piece = take w.in-Ok.count c.read.new.buf in
          rw w.session-is (
            search rules,
            search rules,
            (
              read ++ piece,
              w.in_ok-add-in-Ok.ensures.taken c.args.options (read ++ piece) (IsBefore-piece piece taken),
              Consumes-trans _ _ _ _ _ consumed w.in-Ok.ensures.bytes.0,
            ),
            quiet,
          )
      | in-Err w ↦
          rw w.session-is (
            omega arith,
            search rules,
            (read, taken, Consumes-kept _ _ _ _ consumed w.in-Err.ensures.bytes),
            quiet,
          )
    ]
