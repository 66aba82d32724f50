-- What edits make of names with their texts.
use Rattle.std.specs.Prelude.{◌≡◌, ◌≤◌, ◌∷◌, ℕ, if◌then◌else◌, List, [], length, Option, Some, None, IsSomeAnd, Result, Ok, Err, map, ⊤}
pub use Rattle.std.specs.Option.{option_map}
use Rattle.std.specs.Str.{bytes_eq}
pub use Rattle.argon2_base.specs.PhcFields.{text_of}
use Rattle.argon2_schemes.specs.Locks.{is_locked, without_lock}
use Rattle.argon2_rows.specs.Names.{Texts, changed, get}
use Rattle.argon2_rows.specs.Table.{IsHuge, IsLong}
use Rattle.argon2_store.specs.Errors.{FileError, NameTaken, NameUnknown, Changed, Locked}
use Rattle.argon2_store.specs.declared.edit.Edit.{Edit}
use Rattle.argon2_store.specs.declared.edit.Edit.TheVariants as code
use Rattle.argon2_store.specs.declared.edit.RowEdit.{RowEdit}
use Rattle.argon2_store.specs.declared.edit.RowEdit.TheVariants as row

-- an edit of the text of a name, as the code's `Edit`, with its texts as bytes
pub data EditValue : Type 0 where
  adding : List ℕ → EditValue
  setting : List ℕ → EditValue
  replacing : List ℕ → List ℕ → EditValue
  removing : EditValue
  locking : EditValue
  unlocking : EditValue

abbrev pub edit_value : Edit → EditValue
edit_value (code.Add text) = adding (text_of text.now)
edit_value (code.Set text) = setting (text_of text.now)
edit_value (code.Replace old new) = replacing old.now (text_of new.now)
edit_value code.Remove = removing
edit_value code.Lock = locking
edit_value code.Unlock = unlocking

-- a name with the edit of its text
abbrev pub NamedEdit : Type 0
NamedEdit = List ℕ × EditValue

-- the text after `!`; a text that begins with `!` stays as it is
abbrev pub with_lock : List ℕ → List ℕ
with_lock text = if is_locked text then text else 33 ∷ text

-- why an edit is refused if the name has this text, or none
abbrev pub refusal : EditValue → Option (List ℕ) → Option FileError
refusal (adding text) None = None
refusal (adding text) (Some old) = Some NameTaken
refusal (replacing old new) (Some text) =
    if is_locked text then Some Locked else if bytes_eq text old then None else Some Changed
refusal _ (Some text) = None
refusal _ None = Some NameUnknown

-- the text of the name after the edit
abbrev pub gives : EditValue → Option (List ℕ) → Option (List ℕ)
gives (adding text) before = Some text
gives (setting text) before = Some text
gives (replacing old new) before = Some new
gives removing before = None
gives locking before = option_map with_lock before
gives unlocking before = option_map without_lock before

-- if the edit adds the name, the name has at most 4096 bytes
abbrev pub AddsShortName : NamedEdit → Type 0
AddsShortName (name, adding text) = length name ≤ 4096
AddsShortName _ = ⊤

-- the row edit turns the text `before` into the text `after`, where None is no row
abbrev pub MakesRow : Option (List ℕ) → Option (List ℕ) → RowEdit → Type 0
MakesRow before after row.Keep = after ≡ before
MakesRow before after (row.Insert new) = (before ≡ None) × (after ≡ Some (text_of new.now))
MakesRow before after (row.Replace old new) = (before ≡ Some old.now) × (after ≡ Some (text_of new.now))
MakesRow before after (row.Remove old) = (before ≡ Some old.now) × (after ≡ None)
MakesRow before after (row.Lock old) = (before ≡ Some old.now) × (after ≡ Some (33 ∷ old.now))
MakesRow before after (row.Unlock old bare) = (before ≡ Some old.now) × (after ≡ Some bare.now)

-- what an edit does to the row of a name with this text or none, or why the edit is refused
abbrev pub EditsRow : EditValue → Option (List ℕ) → Result RowEdit FileError → Type 0
EditsRow edit before (Ok done) = (refusal edit before ≡ None) × MakesRow before (gives edit before) done
EditsRow edit before (Err why) = refusal edit before ≡ Some why

-- ---- edits that are made together

abbrev pub unless : Option FileError → Texts → Result Texts FileError
unless None names = Ok names
unless (Some why) names = Err why

-- the names after an edit, or why the edit is refused
abbrev pub edited : NamedEdit → Texts → Result Texts FileError
edited (name, edit) names = unless (refusal edit (get names name)) (changed names name (gives edit (get names name)))

abbrev pub and_then : Result Texts FileError → (Texts → Result Texts FileError) → Result Texts FileError
and_then (Ok names) next = next names
and_then (Err why) next = Err why

-- the names after all of these edits, or why the first refused edit is refused
abbrev pub names_after : List NamedEdit → Texts → Result Texts FileError
names_after [] names = Ok names
names_after (edit ∷ edits) names = and_then (edited edit names) (names_after edits)

-- The name or the text that an edit leaves has more bytes than a new name or text may have, or their row more than any row. Only
-- an edit that adds a name asks for the first.
abbrev pub IsOverlong : EditValue → List ℕ × List ℕ → Type 0
IsOverlong (adding text) e = IsLong e
IsOverlong _ e = IsHuge e

-- what the edit was to leave is too long
abbrev pub IsTooLong : Texts → NamedEdit → Type 0
IsTooLong before (name, edit) = IsSomeAnd (gives edit (get before name)) (λ text. IsOverlong edit (name, text))

-- the edits that add names with their texts
abbrev pub additions : List (List ℕ × List ℕ) → List NamedEdit
additions es = map (λ e. (e.0, adding e.1)) es

-- ---- the text of one name

-- the text of this name after edits of a list, the first edit first
abbrev pub left_by : List ℕ → List NamedEdit → Option (List ℕ) → Option (List ℕ)
left_by name [] text = text
left_by name ((edited_name, edit) ∷ edits) text =
    left_by name edits (if bytes_eq name edited_name then gives edit text else text)
