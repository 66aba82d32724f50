-- Look-ups in a file, one after the other, and an addition after them.
use Rattle.argon2_passwd.proofs.Common.{AccountFile, additions, AddsEntries, arith, database_of, entries_in, FileError, Flaw, flaws_from, Ghosts, HasCause, HasFailedBy, HasNames, IfSome_then, inl, inr, has_text, IsClosed}
use Rattle.argon2_passwd.proofs.Common.{IsHonest, LineValue, List, Looks, new_lines, None, Option, StaysQuiet-trans, refl, Result, Serves, Stays, subst, sym, Texts, ℕ, ◌≡◌}
use Rattle.sqlite_trees.specs.declared.error.StoreError.{StoreError}

-- a cause of an error is one for weaker facts too
cause_by_other_facts : {closed shut : Type 0} {fault failed : StoreError → Type 0} (e : FileError) → (closed → shut)
    → ((f : StoreError) → fault f → failed f) → HasCause closed fault ⊥ e → HasCause shut failed ⊥ e
cause_by_other_facts e closes fails why = grind arith

module _ {S : Type 0} {g : Ghosts S} where
  -- the names stay through a look-up and another one after it
  stays-then : {error : Option FileError} {names : Texts} {a b c : AccountFile S g} → Stays None names a b → Stays error names b c
      → Stays error names a c
  stays-then {error} {a = a} {b} {c} first then = record {
    has = then.has;
    quiet = StaysQuiet-trans g (database_of a) (database_of b) (database_of c) first.quiet then.quiet;
    left = λ clean is_open. then.left clean (first.is_open refl (omega (arith, clean, then.quiet.clean)));
    closed = λ clean shut. let never = (first.closed clean shut).0 in absurd cc;
    is_open = then.is_open;
    of_file = then.of_file;
    cause = λ clean.
        let mid : IsHonest g (database_of b) = omega (arith, clean, then.quiet.clean) in
        let yet = first.is_open refl mid in
        IfSome_then error (then.cause clean)
        (λ e why. cause_by_other_facts {fault = HasFailedBy b c} {failed = HasFailedBy a c} e
        (λ shut. absurd (let is : IsClosed b = shut in cc))
        (λ f failed. (omega (arith, failed.0, first.quiet.counts), failed.1)) why);
  }

  -- look-ups and further look-ups are look-ups
  pub looks-then : (error : Option FileError) (a b c : AccountFile S g) → Looks None a b → Looks error b c → Looks error a c
  looks-then error a b c (inl (none, same)) then = subst (λ x. Looks error x c) same then
  looks-then error a b c (inr first) (inl (none, same)) =
      inr (λ names has. subst (λ x. Stays error names a x) (sym same)
      (subst (λ e. Stays e names a b) (sym none) (first names has)))
  looks-then error a b c (inr first) (inr then) =
      inr (λ names has. let read = first names has in stays-then read (then names read.has))

  -- look-ups leave the names as they are
  pub looks_keep_names : (error : Option FileError) (a b : AccountFile S g) → Looks error a b → (names : Texts) → HasNames a names
      → HasNames b names
  looks_keep_names error a b (inl (none, same)) names has = subst (λ x. HasNames x names) (sym same) has
  looks_keep_names error a b (inr looks) names has = (looks names has).has

  -- a disk that is honest after look-ups was honest before them
  pub honest_before_looks : (error : Option FileError) (a b : AccountFile S g) → Looks error a b → (names : Texts)
      → HasNames a names
      → IsHonest g (database_of b) → IsHonest g (database_of a)
  honest_before_looks error a b (inl (none, same)) names has clean = subst (λ x. IsHonest g (database_of x)) same clean
  honest_before_looks error a b (inr looks) names has clean =
      let quiet = (looks names has).quiet in omega (arith, clean, quiet.clean)

  -- look-ups, and then a call to add the entries of the new lines
  pub looks_then_add_entries : {a b c : AccountFile S g} (ls new : List LineValue) (answer : Result (Unit {0}) FileError)
      {es : List (List ℕ × List ℕ)} {passed : List (ℕ × Flaw)} → Looks None a b → Serves (additions es) answer b c
      → (es ≡ entries_in new) × (passed ≡ flaws_from 1 new)
      → ((names : Texts) → HasNames a names → IsHonest g (database_of b) → new ≡ new_lines (has_text names) ls)
      → AddsEntries answer ls passed a c
  looks_then_add_entries {a} {b} {c} ls new answer looks serves (made, flawed) is = (
    b,
    new,
    looks,
    subst (λ es. Serves (additions es) answer b c) made serves,
    flawed,
    λ names has clean.
        let done = (serves names (looks_keep_names None a b looks names has)).1 in is names has (done.honest clean),
  )
