use Rattle.argon2_store.proofs.Imports.{arith, inl, refl, subst, subst₂, sym, no_doubt, settled_at, over_file, view, IsFoundIn, IsClean, crash_leaves-quiet, StaysQuiet-refl, err_is, AreClean}
use Rattle.argon2_store.proofs.NextOpenLemmas.{FindsOnly-IsFoundIn}
use Rattle.argon2_store.proofs.OpenLemmas.{pool_clean-AreClean, IsOfPair-after_headers, seen_image-after_read, AreUnharmed-quiet, AreUnharmed-after_read}
use Rattle.argon2_store.proofs.account_file.AccountFile+FileStore+D.open_from.Goals as goal
use Rattle.argon2_store.proofs.account_file.AccountFile+FileStore+D.open_from.Goals.{in-Ok-false, in-Err-are_rows_sound}

pub invariant_of-result : goal.invariant_of-result
invariant_of-result g c =
    let found = c.in-Ok-true.ensures.found c.in-Ok-true.field-0-test in record { kept = ∣ (found.0, found.2) ∣₁ }

pub returns-in-Ok-true-clause-ready : goal.returns-in-Ok-true-clause-ready
returns-in-Ok-true-clause-ready g c =
    let (names, lines, has, rows) = c.in-Ok-true.ensures.found c.in-Ok-true.field-0-test in
    let opened = λ (clean : IsClean (view c.are_rows_sound.new.store)). c.in_ok-store.ensures.opened (search arith) in (
      names,
      record {
        has = has;
        is_open = c.in-Ok-true.ensures.«open»;
        left = λ clean. crash_leaves-quiet over_file (λ s. settled_at s g.met.D.Disk.seen_may_stay) _
            c.are_rows_sound.new.store names has.1 (StaysQuiet-refl over_file c.are_rows_sound.new.store) clean
            (c.in-Ok-true.ensures.«open» clean);
      },
      lines,
      λ clean. (has.0, subst₂ (IsFoundIn 4096) (seen_image-after_read c.in_default.ensures.reads) (rows clean) (opened clean).2),
      λ clean. c.in_default.ensures.whole (opened clean).1,
      λ clean. c.in_default.ensures.known (opened clean).1,
    )

pub returns-in_err-store-clause-err : goal.returns-in_err-store-clause-err
returns-in_err-store-clause-err g c =
    rw (err_is c.from_residual.result _ c.from_residual.ensures.1)
    (IsOfPair-after_headers _ _ c.in_err-store.ensures.error c.in_default.ensures.reads c.in_default.ensures.whole
    c.in_default.ensures.known c.in_err-store.ensures.left.0 c.in_err-store.ensures.left.1)

-- a row is no account, or the rows can't be read
pub returns-clause-err : goal.returns-clause-err
returns-clause-err g c =
    let now = λ (clean : AreClean g.D.Disk c.close.result.log c.close.result.db).
    no_doubt _ (pool_clean-AreClean c.are_rows_sound.new.store.pool _ (sym c.close.ensures) clean) in
    let held = λ (clean : AreClean g.D.Disk c.close.result.log c.close.result.db).
    (c.in_ok-store.ensures.opened (omega (arith, c.are_rows_sound.ensures.quiet.clean, now clean))).1 in
    let unharmed = AreUnharmed-quiet (c.check_headers.new.files.log, c.check_headers.new.files.db) c.in_ok-store.store
    c.are_rows_sound.new.store _ g.met.D.Disk.seen_may_stay
    c.are_rows_sound.ensures.quiet c.in_ok-store.ensures.opened c.close.ensures in
    elim c.match-are_rows_sound.branch [
      | in-Ok-false w ↦ rw w.error-is record {
        kind = inl refl;
        row = λ is clean names lines holds.
            let found = subst (λ i. IsFoundIn 4096 i ((view c.in_ok-store.store).committed 0))
            (seen_image-after_read c.in_default.ensures.reads) ((c.in_ok-store.ensures.opened (search arith)).2) in
            w.in-Ok-false.ensures.refused w.in-Ok-false.field-0-test (now clean) names holds.0 lines
            (sym ((FindsOnly-IsFoundIn _ _ found).0 _ holds.1));
        damaged = λ is. absurd cc;
        damage = λ clean damaged. absurd (c.in_default.ensures.whole (held clean) damaged);
        format = λ n is. absurd cc;
        other = λ clean n has. absurd (c.in_default.ensures.known (held clean) n has);
        unharmed = AreUnharmed-after_read _ c.in_default.ensures.reads unharmed;
      }
      | in-Err-are_rows_sound w ↦ rw w.error-is (IsOfPair-after_headers _ _
          (let of = w.into-error.ensures in grind arith) c.in_default.ensures.reads c.in_default.ensures.whole
          c.in_default.ensures.known held unharmed)
    ]
