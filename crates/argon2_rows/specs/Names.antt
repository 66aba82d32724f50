-- Names with their texts, and names that are added one after the other.
use Rattle.std.specs.Prelude.{◌≡◌, ℕ, ◌<◌, List, [], ◌∷◌, ◌++◌, codes, length, slice_index_or, take, Option, Some, None, IsSome, Result, Ok, Err, ⊤}
pub use Rattle.std.specs.Borrow.{Bor}
use Rattle.std.specs.Fmt.{decimal}
pub use Rattle.std.specs.Cmp.Lexicographic.{slice_cmp}
pub use Rattle.std.specs.FinMap.{FinMap, entries, get, insert, remove}
pub use Rattle.std.specs.Ordering.{nat_cmp}
pub use Rattle.argon2_rows.specs.declared.table.AddError.{AddError}
pub use Rattle.argon2_rows.specs.declared.table.AddError.TheVariants.{Store, Taken}
pub use Rattle.argon2_rows.specs.declared.text.StoredText.{StoredText}

-- texts by the bytes of their names
abbrev pub Texts : Type 0
Texts = FinMap (slice_cmp nat_cmp) (List ℕ)

-- the names after the text of this name was set, or the name was removed (None)
abbrev pub changed : Texts → List ℕ → Option (List ℕ) → Texts
changed names name None = remove names name
changed names name (Some text) = insert names name text

-- ---- several names

-- the bytes of a stored text
abbrev pub text_in : StoredText → List ℕ
text_in stored = stored.text.now

-- a name and its text
abbrev pub entry_of : Bor (List ℕ) × StoredText → List ℕ × List ℕ
entry_of e = (e.0.now, text_in e.1)

-- none of the names has a text, and each is added
abbrev pub AddsAll : Texts → List (List ℕ × List ℕ) → Texts → Type 0
AddsAll before [] after = after ≡ before
AddsAll before (e ∷ es) after = (get before e.0 ≡ None) × AddsAll (changed before e.0 (Some e.1)) es after

-- the first `k` names can be added, and the name at `k` then has a text already
abbrev pub IsFirstTaken : Texts → List (List ℕ × List ℕ) → ℕ → Type 0
IsFirstTaken before es k = (mid : Texts) × AddsAll before (take k es) mid × (k < length es)
    × IsSome (get mid (slice_index_or es k ([], [])).0)

-- Adding each of these names: all names are new, or the name at the index `k` is the first with a text.
abbrev pub AddsEach : Texts → List (List ℕ × List ℕ) → Texts → Result (Unit {0}) AddError → Type 0
AddsEach before es after (Ok _) = AddsAll before es after
AddsEach before es after (Err (Taken k)) = IsFirstTaken before es k
AddsEach before es after (Err (Store _)) = ⊤

-- what an error of adding prints; None is an error of the store, whose text no clause says
abbrev pub add_error_text : AddError → Option (List ℕ)
add_error_text (Taken k) = Some (codes "the name at index " ++ decimal k ++ codes " is taken")
add_error_text (Store e) = None
