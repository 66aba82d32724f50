use Rattle.argon2_rows.proofs.Imports.{IsSome, IsHonest, StaysQuiet}
use Rattle.argon2_rows.proofs.RowLemmas.{IsReading}
use Rattle.argon2_rows.proofs.rows.are_rows_sound.Given as goal

abbrev pub invariant-loop : goal.invariant-loop
invariant-loop g l =
    IsSome ((g.S.Store.view l.store).cursors 0) × StaysQuiet g.S.Store l.fn.store l.store
    × (IsHonest g.S.Store l.store → IsReading (g.S.Store.view l.fn.store) (g.S.Store.view l.store) l.last)
