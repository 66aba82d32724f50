use Rattle.argon2_rows.proofs.Imports.{◌<◌, ◌≡◌, arith, length, ℕ, List, refl, map, get, get_or-map, length-map, map_more, take, take-map, take_all, Any, entry_of, None, Some, Ok}
use Rattle.argon2_rows.proofs.Imports.{IsLong, IsTrue, Texts, AddsAll, AreTexts, HasNoneAfter, IsHonest, Sees, Writes, changed, nat_list_cmp_total, tied_itself, bytes_eq-Decides}
use Rattle.argon2_rows.proofs.AddLemmas.{AddsAll-last}
use Rattle.argon2_rows.proofs.RowLemmas.{get-changed_any, AreTexts-changed}
use Rattle.argon2_rows.proofs.TableLemmas.{err_is, index_shape-kept, Writes-trans}
use Rattle.argon2_rows.proofs.table.add_each.Goals as goal
use Rattle.argon2_rows.proofs.table.add_each.Goals.{After-insert, then-is_last, else-is_last, then-not-is_lt+in_ok-find+in-Later, then-not-is_lt+in_ok-find+in-End, else-not-is_lt}

-- no name after a new one has a text if none had one
none_after_new : (before : Texts) (name text : List ℕ) → HasNoneAfter before name
    → HasNoneAfter (changed before name (Some text)) name
none_after_new before name text none later less =
    grind (
      arith,
      get-changed_any before name later (Some text),
      bytes_eq-Decides later name,
      tied_itself nat_list_cmp_total name,
      none later less,
    )

-- The name has no row, as a look-up found, or since it comes after the last one, and that after all others. Its row is written
-- after those of the names before it.
added : (g : _) (c : After-insert g) (before : Texts) → AreTexts before
    → (IsHonest g.S.Store c.args.store.now → Sees (g.S.Store.view c.args.store.now) before)
    → (mid : Texts) × AreTexts mid
    × Writes g.S.Store c.args.store.now c.insert.new.store before
    (changed mid c.index-new-k.result.0.now (Some c.index-new-k.result.1.text.now))
    (Any IsLong (map entry_of c.args.new.now)) c.insert.result
    × (IsHonest g.S.Store c.if-not-is_lt.store → AddsAll before (map entry_of (take c.loop-k.k c.args.new.now)) mid
    × (get mid c.index-new-k.result.0.now ≡ None) × (IsTrue c.if-not-is_lt.is_last → HasNoneAfter mid c.index-new-k.result.0.now))
added g c before texts sees =
    let (mid, fine, all, wrote) = c.loop-k.invariant.1 before texts sees in
    let shown : IsHonest g.S.Store c.loop-k.store → Sees (g.S.Store.view c.loop-k.store) mid = search arith in
    let looked : Writes g.S.Store c.loop-k.store c.if-not-is_lt.store mid mid ⊥ (Ok tt)
    × (IsHonest g.S.Store c.if-not-is_lt.store → (get mid c.index-new-k.result.0.now ≡ None)
    × (IsTrue c.if-not-is_lt.is_last → HasNoneAfter mid c.index-new-k.result.0.now)) = elim c.if-not-is_lt.branch [
      | then-not-is_lt+in_ok-find+in-Later w ↦ let found = w.in_ok-find.ensures.found mid in search arith
      | then-not-is_lt+in_ok-find+in-End w ↦ let found = w.in_ok-find.ensures.found mid in search arith
      | else-not-is_lt w ↦ elim c.if-is_last.branch [
        | then-is_last v ↦ search (arith, nat_list_cmp_total.trans)
        | else-is_last v ↦ absurd cc
      ]
    ] in
    let within : c.loop-k.k < length c.args.new.now = c.loop-k-test.true in (
      mid,
      fine,
      Writes-trans (Writes-trans {R = ⊥} wrote looked.0 (λ never. never))
          (rw c.as_str.ensures at (c.insert.ensures.writes mid (λ clean. (looked.1 clean).0)))
          (λ long. (c.loop-k.k, entry_of c.index-new-k.result, search (arith, length-map), grind (arith, get_or-map), long)),
      λ clean. let (none, last) = looked.1 clean in ((all (omega (arith, clean, looked.0.quiet.clean))).0, none, last),
    )

pub loop-k-init : goal.loop-k-init
loop-k-init g c =
    (c.requires, λ before texts sees. (before, texts, λ clean. (refl, λ is. absurd cc), search arith))

pub returns-in_err-find : goal.returns-in_err-find
returns-in_err-find g c before texts sees =
    let (mid, fine, all, wrote) = c.loop-k.invariant.1 before texts sees in
    let why = c.in_err-find.ensures in
    rw (err_is c.from_residual.result _ c.from_residual.ensures.1)
    (mid, fine, Writes-trans {Q = ⊥} wrote (search (arith, why.err, why.cause)) (λ never. absurd never), λ clean. tt)

pub returns-in-Name : goal.returns-in-Name
returns-in-Name g c before texts sees =
    let (mid, fine, all, wrote) = c.loop-k.invariant.1 before texts sees in
    let within : c.loop-k.k < length c.args.new.now = c.loop-k-test.true in
    let found = c.in_ok-find.ensures.found mid in (
      mid,
      fine,
      Writes-trans wrote (search arith) (λ never. absurd never),
      λ clean. (
        mid,
        rw take-map (all (omega (arith, clean, c.find.ensures.quiet.clean))).0,
        rw length-map within,
        grind (arith, get_or-map entry_of c.args.new.now c.loop-k.k c.index-new-k.result),
      ),
    )

pub returns-in_err-insert : goal.returns-in_err-insert
returns-in_err-insert g c before texts sees =
    let (mid, fine, wrote, all) = rw c.in_err-insert.was at
    (added g (goal.at.returns-in_err-insert g c).After-insert before texts sees) in
    rw (err_is c.from_residual-in_err-insert.result _ c.from_residual-in_err-insert.ensures.1)
    (mid, fine, search arith, λ clean. tt)

pub loop-k-preserved : goal.loop-k-preserved
loop-k-preserved g c = (
  search (arith, index_shape-kept),
  λ before texts sees.
      let (mid, fine, wrote, all) = rw c.in_ok-insert.was at
      (added g (goal.at.loop-k-preserved g c).After-insert before texts sees) in (
        _,
        AreTexts-changed mid _ (Some _) fine (rw c.as_bytes-last.ensures.value at c.as_bytes-last.ensures.utf8) (search arith),
        λ clean.
            let within : c.loop-k.k < length c.args.new.now = c.loop-k-test.true in
            let (adds, none, last) = all (omega (arith, clean, c.insert.ensures.quiet.clean)) in (
              rw (map_more entry_of c.args.new.now c.loop-k.k c.index-new-k.result, ← c.index-new-k.is)
                  (AddsAll-last _ before mid _ _ adds none refl),
              λ is. rw c.as_bytes-last.ensures.value (none_after_new mid _ _ (last is)),
            ),
        wrote,
      ),
)

pub returns : goal.returns
returns g c before texts sees =
    let (mid, fine, all, wrote) = c.loop-k.invariant.1 before texts sees in
    let end = take_all c.loop-k.k c.args.new.now (omega (arith, c.loop-k-test.false)) in
    (mid, fine, wrote, λ clean. rw end at (all clean).0)
