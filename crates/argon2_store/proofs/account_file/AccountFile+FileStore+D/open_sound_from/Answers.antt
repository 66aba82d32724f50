use Rattle.argon2_store.proofs.Imports.{subst, sym, settled_at, not_broken, over_file, view, AreSound, IsFoundIn, IsClean, crash_leaves-quiet, StaysQuiet-refl, err_is}
use Rattle.argon2_store.proofs.NextOpenLemmas.{AreHeld-HasRows, HoldSoundly-AreSound}
use Rattle.argon2_store.proofs.OpenLemmas.{AreClean-before_read, IsOfPair-after_headers, seen_image-after_read}
use Rattle.argon2_store.proofs.account_file.AccountFile+FileStore+D.open_sound_from.Goals as goal

pub returns-in_err-store-clause-err : goal.returns-in_err-store-clause-err
returns-in_err-store-clause-err g c =
    rw (err_is c.from_residual.result _ c.from_residual.ensures.1)
    (IsOfPair-after_headers _ _ c.in_err-store.ensures.error c.in_default.ensures.reads c.in_default.ensures.whole
    c.in_default.ensures.known c.in_err-store.ensures.left.0 c.in_err-store.ensures.left.1)

pub open_files-requires-clause-sound : goal.open_files-requires-clause-sound
open_files-requires-clause-sound g c known clean =
    let (names, held) = c.requires.sound (AreClean-before_read c.in_default.ensures.reads clean) in
    subst AreSound (sym (seen_image-after_read c.in_default.ensures.reads)) (HoldSoundly-AreSound _ names held)

pub invariant_of-result : goal.invariant_of-result
invariant_of-result g c =
    let reads = c.in_default.ensures.reads in
    let opened = λ (clean : IsClean (view c.in_ok-store.store)). c.in_ok-store.ensures.opened clean in
    let it = AreHeld-HasRows c.in_ok-store.store _ (λ clean. c.requires.sound (AreClean-before_read reads (opened clean).1))
    (λ clean. (
      (opened clean).0,
      subst (λ i. IsFoundIn 4096 i ((view c.in_ok-store.store).committed 0)) (seen_image-after_read reads)
          (opened clean).2,
    )) in
    record { kept = ∣ (it.0, it.1) ∣₁ }

pub returns-clause-ready : goal.returns-clause-ready
returns-clause-ready g c =
    let reads = c.in_default.ensures.reads in
    let opened = λ (clean : IsClean (view c.in_ok-store.store)). c.in_ok-store.ensures.opened clean in
    let (names, has, lines, holds) =
    AreHeld-HasRows c.in_ok-store.store _ (λ clean. c.requires.sound (AreClean-before_read reads (opened clean).1))
    (λ clean. (
      (opened clean).0,
      subst (λ i. IsFoundIn 4096 i ((view c.in_ok-store.store).committed 0)) (seen_image-after_read reads)
          (opened clean).2,
    )) in
    let is_open = λ (clean : IsClean (view c.in_ok-store.store)). (not_broken _ _ (opened clean).0.unbroken).1 in (
      names,
      record {
        has = has;
        is_open = is_open;
        left = λ clean. crash_leaves-quiet over_file (λ s. settled_at s g.met.D.Disk.seen_may_stay) _ c.in_ok-store.store names
            has.1
            (StaysQuiet-refl over_file c.in_ok-store.store) clean (is_open clean);
      },
      lines,
      holds,
      λ clean. c.in_default.ensures.whole (opened clean).1,
      λ clean. c.in_default.ensures.known (opened clean).1,
    )
