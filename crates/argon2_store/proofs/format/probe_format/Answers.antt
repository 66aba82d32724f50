use Rattle.argon2_store.proofs.Imports.{arith, rules, halves, err_is, inl}
use Rattle.argon2_store.proofs.FormatLemmas.{IsHead-HasVersion, IsHead-in_file, IsHead-in_log, file-length, IsOfFormat-RefusesLog, frame-within}
use Rattle.argon2_store.proofs.format.probe_format.Goals as goal
use Rattle.argon2_store.proofs.format.probe_format.Goals.{in-Some-last_header+in-Ok+in_ok-read_at, in_default-last_header+in_ok-len+then-branch-ge-VERSIONED+in_ok-read_at-2, in_default-last_header+in_ok-len+else-branch-ge-VERSIONED}

pub returns-in_err-frames-clause-error : goal.returns-in_err-frames-clause-error
returns-in_err-frames-clause-error g c =
    rw (err_is c.from_residual.result _ c.from_residual.ensures.1) (λ clean pages recs n.
    IsOfFormat-RefusesLog g.D.Disk _ _ recs.found.frames recs.found.replays c.in_err-frames.field-0.0
    (rw c.in-Some.ensures.value at (c.in_err-frames.ensures.cause.0 (halves g.D.Disk _ _ clean).0)) n)

pub returns-clause-found : goal.returns-clause-found
returns-clause-found g c clean pages recs =
    let frames = rw c.in-Some.ensures.value at (c.in_ok-frames.ensures.ok (search arith)) in
    IsHead-HasVersion pages c.match-last_header.head c.format_in.result (elim c.match-last_header.branch [
      | in-Some-last_header+in-Ok+in_ok-read_at w ↦
          let both = halves g.D.Disk _ _ (rw w.files-is at clean) in
          let held = rw c.probe_frames.ensures.same.seen at (w.in_ok-read_at.ensures.read both.0 (omega arith)) in
          rw w.head-is (IsHead-in_log _ _ frames pages recs w.in-Ok.frame _ (search (arith, rules)) held (search arith))
      | in_default-last_header+in_ok-len+then-branch-ge-VERSIONED+in_ok-read_at-2 w ↦
          let both = halves g.D.Disk _ _ (rw w.files-is at clean) in
          let held = rw w.in_ok-len.ensures.seen at (w.in_ok-read_at-2.ensures.read both.1 (omega arith)) in
          rw w.head-is (IsHead-in_file _ _ frames pages recs (search (arith, rules)) _ held (search arith))
      | in_default-last_header+in_ok-len+else-branch-ge-VERSIONED w ↦
          let both = halves g.D.Disk _ _ (rw w.files-is at clean) in
          let long = file-length _ _ frames pages recs (search (arith, rules)) in
          absurd (omega (arith, w.in_ok-len.ensures.len both.1, w.if-branch-ge-VERSIONED.false, long))
    ]) (search rules) (search rules)

pub returns-in_err-read_at-clause-error : goal.returns-in_err-read_at-clause-error
returns-in_err-read_at-clause-error g c =
    rw (err_is c.from_residual-in_err-read_at.result _ c.from_residual-in_err-read_at.ensures.1) (λ clean pages recs n.
    let frames = rw c.in-Some.ensures.value at (c.in_ok-frames.ensures.ok (search arith)) in
    let long = frame-within _ _ frames c.in-Ok.frame (search (arith, rules)) in
    inl (rw c.in_ok-frames.ensures.cause at (c.in_err-read_at.ensures.faults.0 (λ _.
    rw c.probe_frames.ensures.same.seen (omega (arith, long))))))
