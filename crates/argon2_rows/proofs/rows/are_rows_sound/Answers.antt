use Rattle.argon2_rows.proofs.Imports.{arith, ap, ◌∙◌, refl, sym, [], entries, entries_sorted, get-entries, IsHonest, Trees, from_key-none}
use Rattle.argon2_rows.proofs.RowLemmas.{FollowsEach-rows_of, names-of_read_rows}
use Rattle.argon2_rows.proofs.rows.are_rows_sound.Goals as goal

pub loop-init : goal.loop-init
loop-init g c = search (arith, from_key-none)

pub returns-then-not-branch-clause-found : goal.returns-then-not-branch-clause-found
returns-then-not-branch-clause-found g c ended =
    let fresh = λ (clean : IsHonest g.S.Store c.next.new.self). c.requires (search arith) in
    let (names, texts, lines, at) =
    names-of_read_rows (g.S.Store.view c.next.new.self).is_clean ((g.S.Store.view c.args.store.now).trees 0) (λ clean.
    let first = fresh clean in
    let read = c.loop.invariant.2 (search arith) in
    let none = (rw c.if-not-branch.true at (c.in_ok-next.ensures.ok clean)).0 in
    (rw first.indexed at (g.met.S.Store.ordered c.args.store.now first.unbroken 0), grind arith)) in
    (names, lines, (texts, search arith), λ clean. sym (ap (λ (t : Trees). t 0) (fresh clean).settled) ∙ sym (at clean))

pub returns-then-not-is_account-clause-refused : goal.returns-then-not-is_account-clause-refused
returns-then-not-is_account-clause-refused g c refused clean names texts lines is =
    let settled = ap (λ (t : Trees). t 0) (c.requires (search arith)).settled in
    let reading = c.loop.invariant.2 (search arith) in
    let moves = rw c.if-not-branch.false at (c.in_ok-next.ensures.ok clean) in
    let all = FollowsEach-rows_of [] (entries names) (entries_sorted names) (λ k v found.
    let has = get-entries names k ∙ found in let good = texts k v has in
    (((k, v), good.0, good.1, lines k v has, refl), λ same. absurd cc)) in
    grind arith
