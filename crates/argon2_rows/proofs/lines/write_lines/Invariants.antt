use Rattle.argon2_rows.proofs.Imports.{◌≡◌, AreTexts, IsSome, StaysQuiet, Texts, IsHonest, Sees}
use Rattle.argon2_rows.proofs.LineLemmas.{IsWriting}
use Rattle.argon2_rows.proofs.lines.write_lines.Given as goal

abbrev pub invariant-loop : goal.invariant-loop
invariant-loop g l = record {
  live : IsSome ((g.S.Store.view l.store).cursors 0);
  same : IsHonest g.S.Store l.store → g.S.Store.view l.store
      ≡ record (g.S.Store.view l.fn.store) { cursors = (g.S.Store.view l.store).cursors };
  quiet : StaysQuiet g.S.Store l.fn.store l.store;
  lines : IsHonest g.S.Store l.store → (names : Texts) → AreTexts names → Sees (g.S.Store.view l.fn.store) names
      → IsWriting l.view (g.S.Store.view l.store) names (g.W.Write.contents l.fn.output) (g.W.Write.contents l.output);
}
