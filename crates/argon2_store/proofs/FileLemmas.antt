-- What a call on an account file does if it is refused, writes nothing, or makes its edits.
use Rattle.argon2_store.proofs.Imports.{arith, zero, suc, ◌≡◌, ◌⊎◌, ◌<◌, ◌∷◌, [], inl, inr, ℕ, List, Option, Some, None, Result, Ok, Err, Bool, true, false, refl, sym, ◌∙◌, ap}
use Rattle.argon2_store.proofs.Imports.{IsTrue, get, Any, HasFailed, ◌↔◌, IfErr, IsErrAnd, IsSomeAnd, OnOk, length, length-map, get_or-map, ◌≤◌}
use Rattle.argon2_store.proofs.Imports.{StaysQuiet-refl, StoreError, Ghosts, Texts, IfOk, IfSome, AddsNames, on_ok_weaker, Answers, error_of, EditsText, IsClosed, IsErrorAt, Makes, Serves, AddsAll}
use Rattle.argon2_store.proofs.Imports.{IsFirstTaken, Stays, database_of, read_of, call_error, Changes, IsHonest, IsHuge, IsLong, IsOpen, CrashLeaves, StaysQuiet, changed, AccountFile, FileError}
use Rattle.argon2_store.proofs.Imports.{Closed, NameTaken, OutOfMemory, AddsShortName, EditValue, NamedEdit, adding, IsOverlong, IsTooLong, IsLong-IsHuge, additions, gives, is_refusal, names_after, refusal, HasCause}
use Rattle.argon2_store.proofs.Imports.{HasFailedBy, HasNames, NamesStay, lines_by, read_by, TellsFault, both_ways, changed-restores, KeepsRows, IsSettled, err_is, index_shape-HasSome, crash_leaves-quiet, OnOk-constant}
use Rattle.argon2_rows.specs.declared.view.Written.{Written}
use Rattle.sqlite_trees.specs.View.{HasCause as Cause, View}

module _ {S : Type 0} {g : Ghosts S} where
  -- the disk has given no wrong answer that was taken as true
  abbrev pub IsTrusted : AccountFile S g → Type 0
  IsTrusted file = IsHonest g (database_of file)

-- ---- errors of the file

-- an error of the store is an error of the file, and no refusal
pub read_of-of_file : {X : Type 0} (done : Result X StoreError) (r : Result X FileError) → r ≡ read_of done
    → IfErr r (λ e. is_refusal e ≡ false)
read_of-of_file done r is = grind arith

-- a property of the value of a result is kept
pub read_of-IfOk : {X : Type 0} (P : X → Type 0) (done : Result X StoreError) (r : Result X FileError) → r ≡ read_of done
    → IfOk done P → IfOk r P
read_of-IfOk P done r is p = grind arith

-- an error of a store that was not broken has the cause that the store told
read_of-HasCause : {X : Type 0} (closed : Type 0) (told : StoreError → Type 0) (v : View) (done : Result X StoreError)
    {P Q R U : Type 0}
    → v.is_broken ≡ false → (P → Q) → (R → U) → IfErr done (λ e. Cause v P R e × told e)
    → IfSome (error_of (read_of done)) (HasCause closed (λ fault. Q × told fault) U)
read_of-HasCause closed told v done sound failed longer why = grind (arith, both_ways)

-- an error of writing several names comes with the number of entries
pub call_error-IsErrorAt : (before : Texts) (es : List (List ℕ × List ℕ)) (k : ℕ) → k ≡ length es
    → (e : StoreError) (error : FileError)
    → error ≡ call_error e → IsErrorAt before es (k, error)
call_error-IsErrorAt before es k is e error same = grind arith

-- ---- lines

-- the error of reading is kept by the result of writing lines
pub read_by-lines_by : (r : Result Written FileError) → error_of (read_by (lines_by r)) ≡ error_of r
read_by-lines_by r = grind arith

-- ---- edits

-- names that can all be added are there after the edits that add them
pub names_after-AddsAll : (es : List (List ℕ × List ℕ)) (before after : Texts) → AddsAll before es after
    → names_after (additions es) before ≡ Ok after
names_after-AddsAll [] before after is = ap Ok (sym is)
names_after-AddsAll (e ∷ es) before after (none, rest) = rw none (names_after-AddsAll es _ after rest)

-- the edits that add names are refused if the first taken name is among them
pub names_after-IsFirstTaken : (es : List (List ℕ × List ℕ)) (before : Texts) (k : ℕ) → IsFirstTaken before es k
    → names_after (additions es) before ≡ Err NameTaken
names_after-IsFirstTaken [] before k (mid, adds, within, has) = absurd (omega (arith, within))
names_after-IsFirstTaken (e ∷ es) before zero (mid, is, within, has) = grind arith
names_after-IsFirstTaken (e ∷ es) before (suc k) (mid, (none, adds), within, has) =
    rw none (names_after-IsFirstTaken es _ k (mid, adds, omega (arith, within), has))

-- ---- a file whose test says so is closed, or is not

module _ {S : Type 0} {g : Ghosts S} (settled : IsSettled g) (old : AccountFile S g) {b : Bool}
    (tests : IsTrusted old → IsTrue b ↔ IsClosed old) where
  -- a call on a closed file changes nothing
  pub NamesStay-closed : b ≡ true → NamesStay (Some Closed) old old
  NamesStay-closed shut names has = search (arith, crash_leaves-quiet, StaysQuiet-refl)

  module _ (shut : b ≡ false) where
    -- a file is open if the test says that it is not closed
    pub IsOpen-tested : IsTrusted old → IsOpen g (database_of old)
    IsOpen-tested clean = grind arith

    -- a call that reads an open file changes no name, and its error has its cause
    pub Stays-KeepsRows : {X : Type 0} (new : AccountFile S g) → (done : Result X StoreError)
        → (names : Texts) → HasNames old names → KeepsRows g (database_of old) (database_of new) names done
        → (r : Result X FileError) → r ≡ read_of done → Stays (error_of r) names old new
    Stays-KeepsRows new done names has (had, opens, why, quiet) r is =
        let left = crash_leaves-quiet g settled (database_of old) (database_of new) names has.1 quiet in
        let was_open = IsOpen-tested in
        let due_now = λ (clean : IsTrusted new). let was : IsTrusted old = omega (arith, clean, quiet.clean) in
        let told : IfErr done (λ e. Cause (g.view (database_of old)) (HasFailed g (database_of old) (database_of new)) ⊥ e
        × TellsFault g (database_of new) e) = let due = why clean in grind arith in
        read_of-HasCause (IsClosed old) (TellsFault g (database_of new)) (g.view (database_of old)) done
        (has.1.sound was (IsOpen-tested was))
        (λ f. f) (λ never. never) told in
        grind arith

    -- a call that does nothing changes no name
    pub NamesStay-unread : NamesStay None old old
    NamesStay-unread names has =
        Stays-KeepsRows old (Ok (tt {0})) names has (has, IsOpen-tested, (λ clean. tt), StaysQuiet-refl g (database_of old))
        _ refl

-- a crash that leaves the names leaves these or others
CrashLeaves-either : {S : Type 0} (g : Ghosts S) {s : S} {names : Texts} {Q : Texts → Type 0}
    → CrashLeaves g s (λ left. left ≡ names)
    → CrashLeaves g s (λ left. (left ≡ names) ⊎ Q left)
CrashLeaves-either g leaves db found = let (names, held, is) = leaves db found in (names, held, inl is)

-- a call that leaves the names makes the edits if its answer is due
pub Makes-nothing : {S : Type 0} {g : Ghosts S} {edits : List NamedEdit} {old new : AccountFile S g} {before : Texts}
    (r : Result (Unit {0}) FileError) → HasNames new before → StaysQuiet g (database_of old) (database_of new)
    → (IsTrusted new → IsOpen g (database_of old) → CrashLeaves g (database_of new) (λ left. left ≡ before))
    → (IsTrusted new → Answers before edits r before)
    → (IsTrusted old → IsClosed old → (r ≡ Err Closed) × (database_of new ≡ database_of old))
    → (IsTrusted new → IfErr r (HasCause (IsClosed old) (HasFailedBy old new) (Any (IsTooLong before) edits)))
    → Makes edits r old new before before
Makes-nothing {g = g} {edits} {old} {new} {before} r has quiet left answers closed cause =
    let crash : IsTrusted new → IsOpen g (database_of old) → CrashLeaves g (database_of new) (λ left.
    (left ≡ before) ⊎ (IsErrAnd r (λ e. is_refusal e ≡ false) × (names_after edits before ≡ Ok left))) =
    λ clean is_open. CrashLeaves-either g (left clean is_open) in search arith

-- A call on a file that is not closed, which has read it.
module _ {S : Type 0} {g : Ghosts S} {old mid : AccountFile S g} {before : Texts} (reads : Stays None before old mid) where
  -- the end of a call that has read the file, and changes the names or leaves them
  Makes-Changes : {edits : List NamedEdit} {other : Type 0} {new : AccountFile S g} {to : Texts}
      {done : Result (Unit {0}) StoreError}
      → Changes g (database_of mid) (database_of new) before to other done
      → (r : Result (Unit {0}) FileError) (after : Texts) → HasNames new after → (IsTrusted new → Answers before edits r after)
      → IfErr r (λ e. IsTrue (is_refusal e) → StaysQuiet g (database_of old) (database_of new))
      → (IsTrusted new → CrashLeaves g (database_of new) (λ left.
      (left ≡ after) ⊎ (IsErrAnd r (λ e. is_refusal e ≡ false) × (names_after edits before ≡ Ok left))))
      → (IsTrusted new → IfErr r (HasCause (IsClosed old) (HasFailedBy old new) (Any (IsTooLong before) edits)))
      → Makes edits r old new before after
  Makes-Changes {new = new} change r after has answers refused crash cause =
      let closed : IsTrusted old → IsClosed old → (r ≡ Err Closed) × (database_of new ≡ database_of old) =
      grind (arith, reads.closed) in
      let closes : IsTrusted new → IsOpen g (database_of new) ⊎ HasFailed g (database_of old) (database_of new) =
      grind (arith, change.closes, reads.quiet.counts) in
      search (arith, change.honest)

  -- edits that are written are made, or the names stay as they were
  pub Makes-written : {edits : List NamedEdit} {long : Type 0} {new : AccountFile S g} {to : Texts}
      → (IsTrusted new → long → Any (IsTooLong before) edits)
      → (IsTrusted new → (to ≡ before) ⊎ (names_after edits before ≡ Ok to))
      → (done : Result (Unit {0}) StoreError) → OnOk done (IsTrusted new → names_after edits before ≡ Ok to)
      → Changes g (database_of mid) (database_of new) before to long done
      → (r : Result (Unit {0}) FileError) → r ≡ read_of done → (after : Texts) × Makes edits r old new before after
  Makes-written {to = to} too then (Ok _) all change r e = (
    to,
    rw e (Makes-Changes change (Ok tt) to change.kept all tt
        (λ clean. CrashLeaves-either g (change.durable clean).1) (λ clean. tt)),
  )
  Makes-written {edits = edits} {long = long} {new = new} too then (Err f) all change r e =
      let of_file : is_refusal (call_error f) ≡ false = grind arith in (
        before,
        rw e (Makes-Changes change (Err (call_error f)) before change.kept (grind arith) (grind arith)
            (λ clean db found. let (names, held, is) = change.crash clean db found in
            let ended = then clean in (names, held, grind arith)) (λ clean. let was = change.honest clean in
            read_of-HasCause {X = Unit {0}} (IsClosed old) (TellsFault g (database_of new)) (g.view (database_of mid)) (Err f)
            (reads.has.1.sound was (reads.is_open refl was)) (λ failed. omega (arith, failed, reads.quiet.counts)) (too clean)
            (change.cause clean))),
      )

  -- names that are added to the rows are added by the edits
  pub Makes-AddsNames : (es : List (List ℕ × List ℕ)) {new : AccountFile S g} (done : Result (Unit {0}) StoreError)
      → AddsNames g (database_of mid) (database_of new) before es done → (r : Result (Unit {0}) FileError) → r ≡ read_of done
      → (after : Texts) × Makes (additions es) r old new before after
  Makes-AddsNames es done (to, may, all, change) r is =
      let add : List ℕ × List ℕ → NamedEdit = λ e. (e.0, adding e.1) in
      Makes-written (λ clean (i, e, within, is, long).
      (i, add e, rw length-map within, get_or-map add es i e (add e) within ∙ ap add is, long))
      (λ clean. elim (may clean) [ inl same ↦ inl same | inr adds ↦ inr (names_after-AddsAll es before to adds) ]) done
      (on_ok_weaker done (λ f clean. names_after-AddsAll es before to (f clean)) all) change r is

-- An edit of a name that has this text or none, in a file that was read and is not closed.
module _ {S : Type 0} {g : Ghosts S} {name : List ℕ} {edit : EditValue} {text : Option (List ℕ)} {old mid : AccountFile S g}
    (reads : NamesStay None old mid)
    (shows : (names : Texts) → HasNames mid names → IsTrusted mid → get names name ≡ text) where
  -- an edit that writes nothing, with an answer that is due
  EditsText-unwritten : {new : AccountFile S g} → database_of new ≡ database_of mid → (r : Result (Unit {0}) FileError)
      → ((before : Texts) → get before name ≡ text → Answers before ((name, edit) ∷ []) r before)
      → ((closed long : Type 0) (fault : StoreError → Type 0) → IfErr r (HasCause closed fault long))
      → EditsText name edit r old new
  EditsText-unwritten same r answers cause before has =
      let read = reads before has in (
        before,
        Makes-nothing r (rw same read.has) (rw same read.quiet) (rw same read.left) (grind arith) (grind arith)
            (search (arith, cause)),
      )

  -- an edit that the text of the name refuses
  pub EditsText-refused : {e : FileError} {r : Result (Unit {0}) FileError} → refusal edit text ≡ Some e → IsErrAnd r (λ f. f ≡ e)
      → EditsText name edit r old mid
  EditsText-refused {e} why failed = rw (err_is _ _ failed) (EditsText-unwritten refl (Err e) (grind arith) (grind arith))

  -- an edit without memory for its new text
  pub EditsText-OutOfMemory : {new : AccountFile S g} {r : Result (Unit {0}) FileError} → database_of new ≡ database_of mid
      → IsErrAnd r (λ e. e ≡ OutOfMemory) → EditsText name edit r old new
  EditsText-OutOfMemory same failed =
      rw (err_is _ _ failed) (EditsText-unwritten same (Err OutOfMemory) (grind arith) (grind arith))

  -- an edit that leaves the text as it is
  pub EditsText-same : {new : AccountFile S g} → database_of new ≡ database_of mid → refusal edit text ≡ None
      → gives edit text ≡ text
      → EditsText name edit (Ok tt) old new
  EditsText-same same none is = EditsText-unwritten same (Ok tt) (λ before had. rw (had, none, is)
      (ap Ok (changed-restores before before name _ (λ q far. refl) had))) (grind arith)

  -- an edit whose new row is written
  pub EditsText-written : {new : AccountFile S g} → refusal edit text ≡ None → {done : Result (Unit {0}) StoreError}
      → ((names : Texts) → HasNames mid names → Changes g (database_of mid) (database_of new) names
      (changed names name (gives edit text))
      (IsSomeAnd (gives edit text) (λ text. IsOverlong edit (name, text))) done)
      → {r : Result (Unit {0}) FileError} → r ≡ read_of done → EditsText name edit r old new
  EditsText-written {new} none {done} change {r} e before has =
      let read = reads before has in
      let wrote = change before read.has in
      let had : IsTrusted new → get before name ≡ text = λ clean. shows before read.has (wrote.honest clean) in
      let all : IsTrusted new → names_after ((name, edit) ∷ []) before ≡ Ok (changed before name (gives edit text)) =
      grind arith in
      let its : NamedEdit = (name, edit) in
      let within : 0 < length (its ∷ []) = omega arith in
      Makes-written read (λ clean long. (0, its, within, refl, rw (had clean) long)) (λ clean. inr (all clean)) done
      (OnOk-constant done all) wrote r e

-- what is too long for a new row is too long for the edit that adds it
pub IsOverlong-IsLong : (edit : EditValue) (text : Option (List ℕ)) (e : List ℕ × List ℕ) → refusal edit text ≡ None → text ≡ None
    → IsLong e → IsOverlong edit e
IsOverlong-IsLong edit text e none is long = grind arith

-- what is too long for any row is too long for its edit
pub IsOverlong-IsHuge : (edit : EditValue) (e : List ℕ × List ℕ) → IsHuge e → IsOverlong edit e
IsOverlong-IsHuge edit e huge = grind (arith, IsLong-IsHuge e huge)

-- a new name whose row is written is short enough
pub AddsShortName-written : (name : List ℕ) (edit : EditValue) (text : Option (List ℕ))
    (done result : Result (Unit {0}) StoreError)
    {r : Result (Unit {0}) FileError} → refusal edit text ≡ None
    → (text ≡ None → OnOk done (length name ≤ 4096)) → IfErr done (λ e. result ≡ Err e) → r ≡ read_of result
    → OnOk r (AddsShortName (name, edit))
AddsShortName-written name edit text done result none short failed is = grind arith

-- an edit that leaves the text adds no name
pub AddsShortName-same : (name : List ℕ) (edit : EditValue) (text : Option (List ℕ)) → refusal edit text ≡ None
    → gives edit text ≡ text
    → AddsShortName (name, edit)
AddsShortName-same name edit text none same = grind arith

-- a call on a file that can't be read makes no edit
pub Serves-unreadable : {S : Type 0} {g : Ghosts S} {edits : List NamedEdit} {old mid : AccountFile S g} {e : FileError}
    {r : Result (Unit {0}) FileError} → NamesStay (Some e) old mid → IsErrAnd r (λ f. f ≡ e) → Serves edits r old mid
Serves-unreadable {e = e} stays is before has =
    let reads = stays before has in
    let ends = Makes-nothing (Err e) reads.has reads.quiet reads.left in
    rw (err_is _ _ is) (before, ends (grind (arith, reads.of_file)) (grind (arith, reads.closed)) (grind (arith, reads.cause)))

-- facts about answers, for the search
pub ruleset answers = (read_of-IfOk, read_of-of_file, call_error-IsErrorAt, index_shape-HasSome)
