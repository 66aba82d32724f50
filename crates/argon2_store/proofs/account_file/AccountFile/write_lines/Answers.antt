use Rattle.std.specs.Prelude.{MatchResult}
use Rattle.argon2_rows.proofs.LineLemmas.{AreCut-nothing}
use Rattle.argon2_rows.specs.Lines.{AreCut, AreWritten}
use Rattle.argon2_rows.specs.declared.view.View.{View}
use Rattle.argon2_rows.specs.declared.view.Written.{Written}
use Rattle.argon2_rows.specs.declared.view.Written.TheVariants.{All, Breaks, Failed}
use Rattle.argon2_store.proofs.Imports.{arith, Err, IsHonest, IsOpen, List, Ok, Option, Result, StoreError, Texts, lines_by, read_of, KeepsRows-EndsRead, HasSome-map, ℕ}
use Rattle.argon2_store.specs.AccountFile.{WritesLines}
use Rattle.argon2_store.proofs.FileLemmas.{read_by-lines_by, Stays-KeepsRows}
use Rattle.argon2_store.proofs.account_file.AccountFile.write_lines.Goals as goal

pub invariant_of-self : goal.invariant_of-self
invariant_of-self g c = record {
  kept = HasSome-map c.args.self.now.kept (λ names has. (KeepsRows-EndsRead g.met.S.Store.settled (search arith)
      c.write_lines-done.result g.met.S.Store.broken_if_shut has (c.write_lines-done.ensures.reads names)
      c.undo_failed.ensures).0);
}

pub returns-clause-reads : goal.returns-clause-reads
returns-clause-reads g c names has =
    rw (c.line_result.ensures, read_by-lines_by)
    (Stays-KeepsRows g.met.S.Store.settled c.args.self.now c.is_closed.ensures c.if-is_closed.false _ _ names has
    (KeepsRows-EndsRead g.met.S.Store.settled (search arith) _ g.met.S.Store.broken_if_shut has
    (c.write_lines-done.ensures.reads names)
    c.undo_failed.ensures) _ c.read_result.ensures)

-- the answer tells what was written
told : (view : View) (names : Texts) (old new : Option (List ℕ)) (done : Result Written StoreError)
    → MatchResult done (AreWritten view names old new) (λ _. AreCut view names old new)
    → WritesLines view names old new (lines_by (read_of done))
told view names old new (Ok All) shows = shows
told view names old new (Ok Breaks) shows = shows
told view names old new (Ok (Failed why)) shows = shows
told view names old new (Err e) shows = shows

pub returns-clause-shows : goal.returns-clause-shows
returns-clause-shows g c names has clean =
    let opens : IsHonest g.S.Store c.args.self.now.store → IsOpen g.S.Store c.args.self.now.store = search arith in
    let wrote = c.write_lines-done.ensures.reads names has.0 (λ was unbroken. has.1.seen was (opens was)) in
    let now : IsHonest g.S.Store c.write_lines-done.new.store = omega (arith, clean, c.undo_failed.ensures.quiet.clean) in
    let was : IsHonest g.S.Store c.args.self.now.store = omega (arith, now, wrote.quiet.clean) in
    let shows = c.write_lines-done.ensures.shows names has.0 (λ unbroken. has.1.seen was (opens was)) now in
    rw (c.line_result.ensures, c.read_result.ensures) (told c.args.view names _ _ c.write_lines-done.result shows)

pub returns-then-is_closed-clause-shows : goal.returns-then-is_closed-clause-shows
returns-then-is_closed-clause-shows g c names has clean =
    rw c.into.ensures (AreCut-nothing c.args.view names (g.W.Write.contents c.args.output.now))
