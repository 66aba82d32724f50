-- Names with texts: what stores of them share, and what an accepted login leaves of a text.
use Rattle.std.specs.Prelude.{◌≡◌, ◌≢◌, ℕ, List, [], ◌∷◌, map, String, string_bytes, Option, Some, None, Result, Ok, Err}
use Rattle.std.specs.BTreeMap.{BTreeMap}
use Rattle.std.specs.Cmp.Lexicographic.{slice_cmp}
use Rattle.std.specs.FinMap.{FinMap, from_entries, get, insert}
use Rattle.std.specs.Option.{option_or}
use Rattle.std.specs.Ordering.{nat_cmp}
use Rattle.rand_core.specs.Stream.{Stream}
use Rattle.argon2_base.specs.PhcFields.{phc_of}
use Rattle.argon2_base.specs.PhcText.{Phc, IsPhcText}
use Rattle.argon2_base.specs.declared.phc.hash.PasswordHash.{PasswordHash}
use Rattle.argon2.specs.declared.login.answers.Accepted.{Accepted}
use Rattle.argon2.specs.declared.login.answers.Accepted.TheVariants.{Current, Kept, Rehashed}
use Rattle.argon2.specs.declared.login.answers.LoggedIn.{LoggedIn}
use Rattle.argon2.specs.TextHashing.{IsFresh, TargetValue, after_salt, with_tag_length}
use Rattle.argon2.specs.StoredTexts.{shown_settings}

-- ---- names with texts

-- what texts say, by the bytes of their names
abbrev pub Store : Type 0
Store = FinMap (slice_cmp nat_cmp) Phc

-- names with texts as what they say
abbrev pub named_values : {Y : Type 0} → List (String Y × PasswordHash) → List (List ℕ × Phc)
named_values texts = map (λ e. (string_bytes e.0, phc_of e.1)) texts

-- a tree of them as such a map
abbrev pub values_of : {Y : Type 0} → BTreeMap (String Y) PasswordHash → Store
values_of texts = from_entries (named_values texts.entries)

-- the store after these names are added with their texts, one after the other
abbrev pub with_texts : List (List ℕ × Phc) → Store → Store
with_texts [] store = store
with_texts (e ∷ es) store = with_texts es (insert store e.0 e.1)

-- the texts of all other names stay
abbrev pub KeepsOthers : List ℕ → Store → Store → Type 0
KeepsOthers name before after = (other : List ℕ) → other ≢ name → get after other ≡ get before other

-- the first Some that a function gives, from the newest event on
abbrev pub newest : {E X : Type 0} → (E → Option X) → List E → Option X
newest of [] = None
newest of (event ∷ older) = option_or (of event) (newest of older)

-- ---- one text

-- the text is one of the grammar
abbrev pub IsText : List ℕ → Type 0
IsText text = (v : Phc) × IsPhcText text v

-- the text shows the target's settings, with the length of the target's hashes
abbrev pub IsCurrent : TargetValue → Phc → Type 0
IsCurrent target v = shown_settings v ≡ Ok (with_tag_length target.settings)

-- what an accepted login makes of a value
abbrev pub Leaves : TargetValue → List ℕ → List ℕ → Phc → Accepted → Phc → Type 0
Leaves target password drawn v Current w = IsCurrent target v × (w ≡ v)
Leaves target password drawn v Rehashed w = ¬ (IsCurrent target v) × IsFresh target password drawn w
Leaves target password drawn v Kept w = ¬ (IsCurrent target v) × (w ≡ v)

-- the value after a call that made a fresh text for it, or none
abbrev pub value_after : Phc → Option PasswordHash → Phc
value_after v (Some fresh) = phc_of fresh
value_after v None = v

-- what a login answers, without the fresh text
abbrev pub accepted_by : {E : Type 0} → Result LoggedIn E → Result Accepted E
accepted_by (Ok done) = Ok done.accepted
accepted_by (Err e) = Err e

-- what the generator has left: a text is made anew of 16 bytes, even if it is not kept
abbrev pub stream_after : {E : Type 0} → Result Accepted E → Stream → Stream
stream_after (Ok Rehashed) stream = after_salt stream
stream_after (Ok Kept) stream = after_salt stream
stream_after _ stream = stream
