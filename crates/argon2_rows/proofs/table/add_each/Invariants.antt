use Rattle.argon2_rows.proofs.Imports.{◌≡◌, IsTrue, Ok, map, take, Any, plain, Index, Texts, AddsAll, entry_of, AreTexts, HasNoneAfter, IsHonest, IsLong, Sees, Writes}
use Rattle.argon2_rows.proofs.table.add_each.Given as goal

abbrev pub invariant-loop-k : goal.invariant-loop-k
invariant-loop-k g l =
    (IsHonest g.S.Store l.store → (g.S.Store.view l.store).shape 0 ≡ Index plain)
    × ((before : Texts) → AreTexts before → (IsHonest g.S.Store l.fn.store → Sees (g.S.Store.view l.fn.store) before)
    → (mid : Texts) × AreTexts mid
    × (IsHonest g.S.Store l.store → AddsAll before (map entry_of (take l.k l.new)) mid
    × (IsTrue l.is_last → HasNoneAfter mid l.last))
    × Writes g.S.Store l.fn.store l.store before mid (Any IsLong (map entry_of l.new)) (Ok tt))
