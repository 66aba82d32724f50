-- The report as a JSON object.
use Rattle.std.specs.Prelude.{◌≡◌, ◌≤◌, ◌↔◌, ⊤, Bool, IsTrue, ℕ, List, [], ◌∷◌, ◌++◌, codes, decimal, map, Option, Some, IfSome}
use Rattle.std.specs.Borrow.{Bor}
use Rattle.std.specs.Io.KnownBytes.{Appends}
use Rattle.json.specs.Json.{Json, Items, Members, array, document, member, no_members, number, object, string}
use Rattle.json.specs.Token.{Token, begin_array, begin_object, key}
use Rattle.json.specs.Tree.{HasNumbers, depth, items_tokens, json_tokens}
use Rattle.json.specs.Written.{Written}
use Rattle.argon2_io.specs.declared.failure.Failure.{Failure}
use Rattle.argon2_io.specs.declared.failure.Failure.TheVariants.{Output}
use Rattle.argon2_audit.specs.Audit.{IsClean, IsTallied, count_of}
use Rattle.argon2_audit.specs.declared.finding.Class.TheVariants.{Outside, NoHash, Below, Sound, Other, Locked, Empty, Blank, Comment, Unknown}
use Rattle.argon2_audit.specs.declared.json_report.Value.{Value}
use Rattle.argon2_audit.specs.declared.json_report.Value.TheVariants.{Number, Text}
use Rattle.argon2_audit.specs.declared.options.Form.TheVariants.{Json as JsonForm}
use Rattle.argon2_audit.specs.declared.options.Options.{Options}
use Rattle.argon2_audit.specs.declared.tally.Tally.{Tally}

-- ---- the object

-- the JSON of a number or of a text
abbrev pub json_value : Value → Json
json_value (Number n) = number (decimal n)
json_value (Text text) = string text.now

-- the members of an object
abbrev pub members_of : List (List ℕ × Value) → Members
members_of [] = no_members
members_of (m ∷ more) = member m.0 (json_value m.1) (members_of more)

-- the object of the counts
abbrev pub counts_of : Tally → Json
counts_of t = object (members_of (map (λ (count : List ℕ × ℕ). (count.0, Number count.1)) ((codes "lines", t.lines)
    ∷ (codes "sound", count_of Sound t) ∷ (codes "below", count_of Below t) ∷ (codes "no_hash", count_of NoHash t)
    ∷ (codes "outside", count_of Outside t) ∷ (codes "locked", count_of Locked t) ∷ (codes "empty", count_of Empty t)
    ∷ (codes "blank", count_of Blank t) ∷ (codes "comments", count_of Comment t) ∷ (codes "unknown", count_of Unknown t)
    ∷ (codes "other", count_of Other t) ∷ (codes "short_salts", t.short_salts) ∷ (codes "equal_salts", t.equal_salts)
    ∷ (codes "other_keys", t.other_keys) ∷ [])))

-- the object of the report: the findings, the counts, and the number of texts of each other scheme and of each kind
abbrev pub object_of : Tally → Items → Members → Items → Json
object_of tally findings schemes table = object (member (codes "findings") (array findings)
    (member (codes "counts") (counts_of tally) (member (codes "schemes") (object schemes)
    (member (codes "table") (array table) no_members))))

-- the text is the JSON of a report with these counts
abbrev pub IsObject : Tally → List ℕ → Type 0
IsObject tally text = ∥ ((findings : Items) × (schemes : Members) × (table : Items)
    × (document text ≡ Some (object_of tally findings schemes table))) ∥₁

-- if JSON is asked for, one line is written, which is the JSON of a report with these counts
abbrev pub IsReport : Options → Tally → Option (List ℕ) → Option (List ℕ) → Type 0
IsReport options tally old new =
    options.form ≡ JsonForm → (text : List ℕ) × IsObject tally text × Appends old new (text ++ 10 ∷ [])

-- the failure says that standard output can't be written
abbrev pub IsOfOutput : Failure → Type 0
IsOfOutput (Output error) = ⊤
IsOfOutput _ = ⊥

-- if the bytes of the input are known, their lines are counted; the report is written; and `clean` says whether the counts are
-- clean
abbrev pub IsAudit : Options → Option (List ℕ) → Option (List ℕ) → Option (List ℕ) → Bool → Type 0
IsAudit options input old new clean = (tally : Tally) × IfSome input (λ bytes. IsTallied options bytes tally)
    × IsReport options tally old new × (IsTrue clean ↔ IsClean options.limits tally)

-- ---- what the calls write

-- these tokens were added after the earlier tokens
pub record Adds (old new : Written) (added : List Token) : Type 0 where
  pub before : new.before ≡ old.before
  pub tokens : new.tokens ≡ old.tokens ++ added

-- the value can be printed, and nests no deeper than this
abbrev pub IsFlat : ℕ → Json → Type 0
IsFlat most value = HasNumbers value × (depth value ≤ most)

-- a value was added, which can be printed and nests no deeper than this
pub record AddsValue (old new : Written) (most : ℕ) (value : Json) : Type 0 where
  pub adds : Adds old new (json_tokens value)
  pub flat : IsFlat most value

-- the members of a slice of names and values
abbrev pub members_now : List (Bor (List ℕ) × Value) → Members
members_now members = members_of (map (λ (m : Bor (List ℕ) × Value). (m.0.now, m.1)) members)

-- after the tokens `front`, flat items were written, and more may follow
pub record HasItems (front tokens : List Token) : Type 0 where
  pub all : Items → Items
  pub reads : (more : Items) → tokens ++ items_tokens more ≡ front ++ items_tokens (all more)
  pub are : (more : Items) → IsFlat 2 (array more) → IsFlat 2 (array (all more))

-- the object has begun, and its findings so far are written
abbrev pub HasFindings : Written → Type 0
HasFindings json =
    (json.before ≡ []) × HasItems (begin_object ∷ key (codes "findings") ∷ begin_array ∷ []) json.tokens
