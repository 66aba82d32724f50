use Rattle.argon2_rows.proofs.Imports.{◌≡◌, arith, get, changed, Some, None, Ok, Texts, IsHonest, Sees, Writes}
use Rattle.argon2_rows.proofs.RowLemmas.{get-changed, remove_entry-rows_of}
use Rattle.argon2_rows.proofs.TableLemmas.{Writes-trans}
use Rattle.argon2_rows.proofs.table.remove.Goals as goal
use Rattle.argon2_rows.proofs.table.remove.Goals.{After-find, In_ok-find}

-- the row is taken out
removed : (g : _) (c : After-find g) (names : Texts)
    → (IsHonest g.S.Store c.args.store.now
    → Sees (g.S.Store.view c.args.store.now) names × (get names c.args.name.now ≡ Some c.args.text.now))
    → Writes g.S.Store c.args.store.now c.remove.new.self names (changed names c.args.name.now None) ⊥ (Ok tt)
removed g c names has =
    let rows = λ (clean : _). remove_entry-rows_of names c.args.name.now c.args.text.now (has clean).1 in search arith

pub returns-in-Name-clause-writes : goal.returns-in-Name-clause-writes
returns-in-Name-clause-writes g c names has =
    let after = changed names c.args.name.now None in
    let wrote = removed g (goal.at.returns-in-Name-clause-writes g c).After-find names has in
    let found = (rw c.in-Name.is at c.in_ok-find.ensures.found) after in
    let none = get-changed names c.args.name.now None in
    Writes-trans wrote (search arith) (λ never. never)

-- the look-up leaves what it finds
looked : (g : _) (c : In_ok-find g) (names : Texts)
    → Writes g.S.Store c.remove.new.self c.find.new.store names names ⊥ (Ok tt)
looked g c names = let is = c.in_ok-find.ensures in search (arith, is.same, is.sound)

pub returns-in-Later-clause-writes : goal.returns-in-Later-clause-writes
returns-in-Later-clause-writes g c names has =
    let place = goal.at.returns-in-Later-clause-writes g c in
    Writes-trans (removed g place.After-find names has) (looked g place.In_ok-find (changed names c.args.name.now None))
    (λ never. never)
