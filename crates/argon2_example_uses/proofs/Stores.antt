-- What calls of the login store leave, why `add` refuses, and the names of a store one after the other.
use Rattle.std.proofs.Common.{◌≡◌, ℕ, ◌≤◌, List, [], ◌∷◌, Option, Some, None, true, Result, Ok, Err, inl, inr, refl, ap, ◌∙◌}
use Rattle.std.proofs.lemmas.Bool.{and_parts, cases_Bool}
use Rattle.std.specs.Prelude.{◌≢◌, IfErr, IsErr, IsErrAnd, IsOk, OnOk}
use Rattle.std.specs.Cmp.{tied_itself}
use Rattle.std.specs.Cmp.Lexicographic.{slice_cmp, nat_list_cmp_total}
use Rattle.std.specs.FinMap.{empty, entries, entries_sorted, get, get-empty, is_sorted}
use Rattle.std.specs.FinMap.Entries.{below_all}
use Rattle.std.specs.List.{AllByRecursion}
use Rattle.std.specs.Ordering.{is_lt, nat_cmp}
use Rattle.argon2.specs.Login.{IsAddStep, store_of}
use Rattle.argon2.specs.NamedTexts.{Store, KeepsOthers}
use Rattle.argon2.specs.TextHashing.{TargetValue, IsHashAnswer, hash_outcome, tag_length}
use Rattle.argon2.specs.PhcText.{Phc, IsPhcText}
use Rattle.argon2.specs.base_declared.phc.hash.PasswordHash.{PasswordHash}
use Rattle.argon2.specs.declared.login.Login.{Login}
use Rattle.argon2.specs.declared.login.answers.LoginError.{LoginError}
use Rattle.argon2.specs.declared.login.answers.LoginError.TheVariants.{NameTaken, NameUnknown, OutOfMemory, Refused, Text}
use Rattle.argon2_example_uses.specs.Login.{IsMoveRefusal, IsRegisterRefusal}

-- what `add` of a text leaves
pub add_gives : (answer : Result (Unit {0}) LoginError) (o : Option Phc) (text : List ℕ) (v w : Phc) → IsPhcText text v →
    v ≡ w → OnOk answer ((u : Phc) → IsPhcText text u → o ≡ Some u) → OnOk answer (o ≡ Some w)
add_gives (Ok x) o text v w is same says = says v is ∙ ap Some same
add_gives (Err e) o text v w is same says = tt

-- a text that was made is of lengths that are taken
pub hashed_ok : (target : TargetValue) (password salt : List ℕ) (h : PasswordHash) →
    IsHashAnswer target password salt (Ok h) → IsOk (hash_outcome target password salt)
hashed_ok target password salt h (inl is) = rw (← is) refl
hashed_ok target password salt h (inr is) = let no = is.0 in absurd cc

-- `add` refuses a text of the grammar if the name is taken or memory is out
pub add_refuses : (target : TargetValue) (login : Login) (name password salt text : List ℕ) (v : Phc)
    (answer : Result (Unit {0}) LoginError) (after : Store) → IsPhcText text v →
    IsOk (hash_outcome target password salt) → IsAddStep (store_of login) name text answer after →
    IfErr answer (IsRegisterRefusal target login name password salt)
add_refuses target login name password salt text v (Ok x) after is made step = tt
add_refuses target login name password salt text v (Err Text) after is made step = absurd (step.0 v is)
add_refuses target login name password salt text v (Err NameTaken) after is made step = (made, step.0.1)
add_refuses target login name password salt text v (Err NameUnknown) after is made step = absurd step.0
add_refuses target login name password salt text v (Err OutOfMemory) after is made step = (made, step.0.1)
add_refuses target login name password salt text v (Err (Refused e)) after is made step = absurd step.0

-- ---- the names of a store

-- each of the names is new when it is added, one after the other
abbrev pub AreNew : List (List ℕ × Phc) → Store → Type 0
AreNew [] store = Unit {0}
AreNew (e ∷ es) store =
    (get store e.0 ≡ None) × ((after : Store) → KeepsOthers e.0 store after → AreNew es after)

-- a name that is below another is not that name
below_differs : (name other : List ℕ) → is_lt (slice_cmp nat_cmp name other) ≡ true → other ≢ name
below_differs name other below e =
    let tied = tied_itself nat_list_cmp_total name in
    let same = rw (e, tied) at below in
    absurd cc

-- names above the added name stay absent
absent_above : (name : List ℕ) (es : List (List ℕ × Phc)) (store after : Store) →
    below_all (slice_cmp nat_cmp) name es ≡ true → AllByRecursion (λ e. get store e.0 ≡ None) es →
    KeepsOthers name store after → AllByRecursion (λ e. get after e.0 ≡ None) es
absent_above name [] store after below absent keeps = tt
absent_above name (e ∷ es) store after below absent keeps =
    let parts = and_parts (is_lt (slice_cmp nat_cmp name e.0)) _ below in (
      keeps e.0 (below_differs name e.0 parts.0) ∙ absent.0,
      absent_above name es store after parts.1 absent.1 keeps,
    )

new_in_order : (es : List (List ℕ × Phc)) (store : Store) → is_sorted (slice_cmp nat_cmp) es ≡ true →
    AllByRecursion (λ e. get store e.0 ≡ None) es → AreNew es store
new_in_order [] store sorted absent = tt
new_in_order (e ∷ es) store sorted absent =
    let parts = and_parts (below_all (slice_cmp nat_cmp) e.0 es) _ sorted in (
      absent.0,
      λ after keeps. new_in_order es after parts.1 (absent_above e.0 es store after parts.0 absent.1 keeps),
    )

absent_empty : (es : List (List ℕ × Phc)) → AllByRecursion (λ e. get {X = Phc} {R = slice_cmp nat_cmp} empty e.0 ≡ None) es
absent_empty [] = tt
absent_empty (e ∷ es) = (get-empty (slice_cmp nat_cmp) e.0, absent_empty es)

-- the names of a store, added to a store without names
pub entries_are_new : (store : Store) → AreNew (entries store) empty
entries_are_new store = elim (cases_Bool (is_sorted (slice_cmp nat_cmp) (entries store))) [
  | inl sorted ↦ new_in_order (entries store) empty sorted (absent_empty (entries store))
  | inr unsorted ↦ absurd (rw unsorted at (entries_sorted store))
]

pub entries_are_new_in : (es : List (List ℕ × Phc)) (store start : Store) → es ≡ entries store → start ≡ empty →
    AreNew es start
entries_are_new_in es store start is none = rw (is, none) (entries_are_new store)

-- `add` refuses a text of the grammar under a new name only if memory is out
pub add_refuses_new : (target : TargetValue) (before : Store) (name text : List ℕ) (v : Phc)
    (answer : Result (Unit {0}) LoginError) (after : Store) → IsPhcText text v → get before name ≡ None →
    tag_length target.settings ≤ 64 → IsAddStep before name text answer after → IfErr answer (IsMoveRefusal target)
add_refuses_new target before name text v (Ok x) after is new fits step = tt
add_refuses_new target before name text v (Err Text) after is new fits step = absurd (step.0 v is)
add_refuses_new target before name text v (Err NameTaken) after is new fits step =
    let taken = rw new at step.0.1 in
    absurd cc
add_refuses_new target before name text v (Err NameUnknown) after is new fits step = absurd step.0
add_refuses_new target before name text v (Err OutOfMemory) after is new fits step = fits
add_refuses_new target before name text v (Err (Refused e)) after is new fits step = absurd step.0

-- a refusal that is passed on
pub refused_as : (target : TargetValue) (r : Result Login LoginError) (e : LoginError) → IsErr r × IsErrAnd r (λ e'. e' ≡ e) →
    IsMoveRefusal target e → IfErr r (IsMoveRefusal target)
refused_as target (Ok x) e is refused = tt
refused_as target (Err e') e is refused = rw is.1 refused
