use Rattle.argon2_store.proofs.Imports.{arith, rules, [], ◌∷◌, ap, inl, inr, ◌≡◌, sym, length, subst, subst₂, ◌∙◌, IsTrue, ∥∥₁_map, Recovers, recovers_once, clean_of}
use Rattle.argon2_store.proofs.Imports.{schema_of, state, view, kept_schema, state_of, image, account, Image, IsUnstarted, IsFoundIn, nil_from_length, refl, wanted_by, ListsOne, AreClean, AreUnharmed, StandsFor, files_of}
use Rattle.sqlite_store.specs.Unopened as below
use Rattle.sqlite_store.specs.declared.store.open.Unopened.{Unopened}
use Rattle.argon2_store.proofs.OpenLemmas.{IsAsBefore-after_catalog, StandsFor-IsAsBefore, IsUnstarted-no_rows, IsUnwritten-opened, HasFile-AreSound, image-after_probe, StandsFor-IsOnTheWay, IsBlankFile-probed, not_blank-probed, AreUnharmed-closed, AreClean-before_probe}
use Rattle.argon2_store.proofs.database.open_files.Goals as goal
use Rattle.argon2_store.proofs.database.open_files.Goals.{After-create, In-Ok-new-2, then-not-is_new+in-Ok-read_catalog+else-not-may_hold_accounts+else-len-eq-LISTED, else-not-is_new}

-- files that are closed after an open failed are unharmed if the database stands for the files that were probed
unharmed : (g : _) (c : In-Ok-new-2 g) → let it = c.in-Ok-new-2.unopened in
    (end : Unopened _ g.D.Disk) (new : _) → new ≡ files_of end
    → ((state_of it).page_size ≡ 4096 → IsTrue (state_of end).is_clean → IsTrue (state_of it).is_clean
    × ((left : Image) → (state_of end).may_leave left → StandsFor (state_of it).may_leave (image it) left))
    → (AreClean g.D.Disk new.0 new.1 → AreClean g.D.Disk c.args.files.log c.args.files.db)
    × AreUnharmed g.D.Disk (c.args.files.log, c.args.files.db) new
unharmed g c =
    AreUnharmed-closed c.probe_blank.ensures.log c.probe_blank.ensures.db c.in-Ok-new-2.unopened (search rules) (search rules)

-- the files list nothing, or there is no database yet
looked : (g : _) (c : After-create g) → let it = c.in-Ok-new-2.unopened in (wanted_by c.if-not-is_new.unopened ≡ account ∷ [])
    × (IsTrue (state_of c.if-not-is_new.unopened).is_clean → IsTrue (state_of it).is_clean
    × ((state_of c.if-not-is_new.unopened).page_size ≡ (state_of it).page_size)
    × ∥ IsUnstarted (state_of it).page_size (image it) ∥₁
    × ((left : Image) → below.IsAsBefore c.if-not-is_new.unopened left → below.IsAsBefore it left))
looked g c = elim c.if-not-is_new.branch [
  | then-not-is_new+in-Ok-read_catalog+else-not-may_hold_accounts+else-len-eq-LISTED w ↦ rw (w.unopened-is) (
    w.read_catalog.ensures.schema ∙ search rules,
    λ clean.
        let kept = w.read_catalog.ensures.kept clean in
        let listed = w.in-Ok-read_catalog.ensures.ok clean in (
          search rules,
          kept.size,
          IsUnstarted-no_rows _ _ _ listed kept.size (nil_from_length w.in-Ok-read_catalog.rows.items (search rules)),
          IsAsBefore-after_catalog _ _ _ listed kept.size kept,
        ),
  )
  | else-not-is_new w ↦ rw (w.unopened-is) (
    search rules,
    λ clean. (
      clean,
      refl,
      ∣ inl (IsBlankFile-probed c.probe_blank.ensures.log c.probe_blank.ensures.db c.in-Ok-new-2.unopened (search rules) _ _
          (search rules) c.in-Ok.ensures.ok (search rules) clean) ∣₁,
      λ left is. is,
    ),
  )
]

pub open_existing-requires-clause-sound : goal.open_existing-requires-clause-sound
open_existing-requires-clause-sound g c known clean =
    let it = c.in-Ok-new-2.unopened in
    let kept = c.read_catalog.ensures.kept clean in
    let was = c.read_catalog.ensures.honest clean in
    let size : (state_of it).page_size ≡ 4096 = search rules in
    let of_files = image-after_probe c.probe_blank.ensures.log c.probe_blank.ensures.db it (search rules) in
    let files = AreClean-before_probe c.probe_blank.ensures.log c.probe_blank.ensures.db it (search rules) was in
    HasFile-AreSound it c.read_catalog.new.self c.in-Ok-read_catalog.rows.items (c.in-Ok-read_catalog.ensures.ok clean) kept.size
    size
    (c.read_catalog.ensures.schema ∙ search rules) (search rules)
    (not_blank-probed c.probe_blank.ensures.log c.probe_blank.ensures.db it (search rules) c.in-Ok.is_new 4096 (search rules)
    (rw c.in-Some.ensures.value at c.in-Ok.ensures.ok) was)
    (rw of_files (c.requires.sound known files))

pub returns-in-Err-read_catalog-clause-left : goal.returns-in-Err-read_catalog-clause-left
returns-in-Err-read_catalog-clause-left g c =
    unharmed g (goal.at.returns-in-Err-read_catalog-clause-left g c).In-Ok-new-2 c.read_catalog.new.self _
    c.close-in-Err-read_catalog.ensures (λ sized clean. (
      search arith,
      λ left may. StandsFor-IsAsBefore c.in-Ok-new-2.unopened sized left
          ((c.read_catalog.ensures.kept clean).crash left may),
    ))

pub returns-then-not-may_hold_accounts-clause-left : goal.returns-then-not-may_hold_accounts-clause-left
returns-then-not-may_hold_accounts-clause-left g c =
    unharmed g (goal.at.returns-then-not-may_hold_accounts-clause-left g c).In-Ok-new-2 c.read_catalog.new.self _
    c.close-then-not-may_hold_accounts.ensures (λ sized clean. (
      search arith,
      λ left may. StandsFor-IsAsBefore c.in-Ok-new-2.unopened sized left
          ((c.read_catalog.ensures.kept clean).crash left may),
    ))

pub returns-in-Err-open_existing-clause-left : goal.returns-in-Err-open_existing-clause-left
returns-in-Err-open_existing-clause-left g c =
    unharmed g (goal.at.returns-in-Err-open_existing-clause-left g c).In-Ok-new-2 c.in-Err-open_existing.left _
    c.close-in-Err-open_existing.ensures (λ sized clean.
    let was = c.in-Err-open_existing.ensures.falls clean in
    let kept = c.read_catalog.ensures.kept was in (
      search arith,
      λ left may. StandsFor-IsAsBefore c.in-Ok-new-2.unopened sized left
          (IsAsBefore-after_catalog _ _ _ (c.in-Ok-read_catalog.ensures.ok was) kept.size kept left
          ((c.in-Err-open_existing.ensures.unharmed clean).crash left may)),
    ))

pub returns-in-Ok-open_existing-clause-opened : goal.returns-in-Ok-open_existing-clause-opened
returns-in-Ok-open_existing-clause-opened g c clean =
    let now = clean_of _ clean in
    let store = c.in-Ok-open_existing.store in
    let was = c.in-Ok-open_existing.ensures.honest now in
    let size = (c.read_catalog.ensures.kept was).size in
    let sized = (c.in-Ok-open_existing.ensures.kept now).size ∙ size in
    let wants : wanted_by c.in-Ok-new-2.unopened ≡ account ∷ [] = search rules in
    let schema : kept_schema store.saved (schema_of store) ≡ account ∷ [] = search arith in
    let listed = c.in-Ok-read_catalog.ensures.ok was in
    let once = recovers_once _ _ _ _ listed.again (rw size at (c.in-Ok-open_existing.ensures.found now)) in (
      search (arith, IsUnwritten-opened),
      search (arith, AreClean-before_probe),
      subst₂ (λ n i. IsFoundIn n i ((view store).committed 0)) (search rules) (search (arith, image-after_probe)) (inl (
        (state store).committed,
        subst (Recovers _ _) once listed.found,
        ∥∥₁_map (store.stored (c.in-Ok-open_existing.ensures.ready.is_open clean))
            (λ stored. rw (sized, schema) at stored.ours.file),
        grind arith,
        subst (ListsOne _) once (ap length (sym listed.lists) ∙ search rules),
      )),
    )

pub returns-in-Ok-create-clause-opened : goal.returns-in-Ok-create-clause-opened
returns-in-Ok-create-clause-opened g c clean =
    let now = clean_of _ clean in
    let (wants, bare) = looked g (goal.at.returns-in-Ok-create-clause-opened g c).After-create in
    let (was, size, none, before) = bare (c.in-Ok-create.ensures.honest now) in (
      search (arith, IsUnwritten-opened),
      search (arith, AreClean-before_probe),
      subst₂ (λ n i. IsFoundIn n i ((view c.in-Ok-create.store).committed 0)) (search rules) (search (arith, image-after_probe))
          (inr (none, c.in-Ok-create.ensures.empty now 0 (omega arith))),
    )

pub returns-in-Err-create-clause-left : goal.returns-in-Err-create-clause-left
returns-in-Err-create-clause-left g c =
    let (wants, bare) = looked g (goal.at.returns-in-Err-create-clause-left g c).After-create in
    unharmed g (goal.at.returns-in-Err-create-clause-left g c).In-Ok-new-2 c.in-Err-create.left _
    c.close-in-Err-create.ensures (λ sized clean.
    let (was, size, none, before) = bare (c.in-Err-create.ensures.falls clean) in (
      was,
      λ left may. elim ((c.in-Err-create.ensures.unharmed clean).crash left may) [
        | inl is ↦ StandsFor-IsAsBefore c.in-Ok-new-2.unopened sized left (before left is)
        | inr way ↦ StandsFor-IsOnTheWay c.in-Ok-new-2.unopened c.if-not-is_new.unopened sized size left wants none way
      ],
    ))
