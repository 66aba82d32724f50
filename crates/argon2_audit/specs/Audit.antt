-- What an audit counts in the bytes that it reads.
use Rattle.std.specs.Prelude.{◌≡◌, ◌≢◌, ◌⊎◌, ◌<◌, ◌+◌, ◌==◌, ℕ, nat_le, get_or, Bool, if◌then◌else◌, Option, List, [], ◌∷◌, ◌++◌, length}
use Rattle.std.specs.Bool.{MatchBool}
use Rattle.std.specs.BTreeSet.{BTreeSet, contains_by}
use Rattle.std.specs.Cmp.Lexicographic.{slice_cmp}
use Rattle.std.specs.List.{All, AllZip, list_any}
use Rattle.std.specs.Ordering.{nat_cmp}
use Rattle.std.specs.Str.{bytes_eq}
use Rattle.arrayvec.specs.ArrayVec.{ArrayVec}
use Rattle.argon2_audit.specs.Finding.{IsFinding, class_of, has_short_salt, salt_of, shows_other_key, some_passes}
use Rattle.argon2_audit.specs.declared.finding.Class.{Class}
use Rattle.argon2_audit.specs.declared.finding.Class.TheVariants.{Outside, NoHash, Below, Sound, Other, Locked, Empty, Blank, Comment, Unknown}
use Rattle.argon2_audit.specs.declared.finding.Finding.{Finding}
use Rattle.argon2_audit.specs.declared.limits.Limits.{Limits}
use Rattle.argon2_audit.specs.declared.options.Options.{Options}
use Rattle.argon2_audit.specs.declared.seen.Seen.{Seen}
use Rattle.argon2_audit.specs.declared.session.Line.{Line}
use Rattle.argon2_audit.specs.declared.session.Session.{Session}
use Rattle.argon2_audit.specs.declared.tally.Tally.{Tally}

-- ---- salts

-- one of the keys has these bytes
abbrev pub has_key : BTreeSet (ArrayVec ℕ) → List ℕ → Bool
has_key keys bytes = contains_by (λ key. slice_cmp nat_cmp bytes key.items) keys

-- one of the texts so far has this salt
abbrev pub has_salt : Seen → List ℕ → Bool
has_salt seen salt = if nat_le (length salt) 24 then has_key seen.short salt else has_key seen.long salt

-- the salt exists, and is `other`
abbrev pub is_salt : Option (List ℕ) → List ℕ → Bool
is_salt salt other = some_passes (λ s. bytes_eq s other) salt

-- ---- counts

-- 1 if the condition holds, else 0
abbrev pub one_if : Bool → ℕ
one_if b = if b then 1 else 0

-- the number of a class, which is its index in the counts
abbrev pub class_number : Class → ℕ
class_number Outside = 0
class_number NoHash = 1
class_number Below = 2
class_number Sound = 3
class_number Other = 4
class_number Locked = 5
class_number Empty = 6
class_number Blank = 7
class_number Comment = 8
class_number Unknown = 9

-- how many lines of a class were counted
abbrev pub count_of : Class → Tally → ℕ
count_of class tally = get_or tally.counts (class_number class) 0

-- the new counts have one line more, in its class and in no other class
pub record Counts (class : Class) (is_short is_equal is_other : Bool) (old new : Tally) : Type 0 where
  pub lines : new.lines ≡ old.lines + 1
  pub classes : (n : ℕ) → get_or new.counts n 0 ≡ get_or old.counts n 0 + one_if (class_number class == n)
  pub short_salts : new.short_salts ≡ old.short_salts + one_if is_short
  pub equal_salts : new.equal_salts ≡ old.equal_salts + one_if is_equal
  pub other_keys : new.other_keys ≡ old.other_keys + one_if is_other

-- the number of lines that do not count as sound; lines of other schemes, locked and blank lines and comments count as sound if
-- the limits allow them
abbrev pub unsound : Limits → Tally → ℕ
unsound limits tally = count_of Outside tally + count_of NoHash tally + count_of Below tally + count_of Empty tally
    + count_of Unknown tally + (if limits.allows_other then 0
    else count_of Other tally + count_of Locked tally + count_of Blank tally + count_of Comment tally)

-- each line counts as sound, and no two salts are equal
abbrev pub IsClean : Limits → Tally → Type 0
IsClean limits tally = (unsound limits tally ≡ 0) × (tally.equal_salts ≡ 0)

-- the number of findings that pass a test; the last finding comes first
abbrev pub how_many : (Finding → Bool) → List Finding → ℕ
how_many test [] = 0
how_many test (finding ∷ earlier) = how_many test earlier + one_if (test finding)

-- one of the findings shows this salt
abbrev pub any_salt : List ℕ → List Finding → Bool
any_salt salt findings = list_any (λ finding. is_salt (salt_of finding) salt) findings

-- the number of texts that have the salt of an earlier text
abbrev pub repeated : List Finding → ℕ
repeated [] = 0
repeated (finding ∷ earlier) = repeated earlier + one_if (some_passes (λ salt. any_salt salt earlier) (salt_of finding))

-- ---- lines: the last line comes first

-- these bytes of a line were read; only the first 4096 bytes of a long line are kept
abbrev pub IsRead : Line → List ℕ → Type 0
IsRead kept line = MatchBool kept.is_long ((length kept.bytes.items ≡ 4096) × (4096 < length line))
    (kept.bytes.items ≡ line)

-- no line feed is in a line
abbrev pub HasNoFeed : List ℕ → Type 0
HasNoFeed line = All (λ byte. byte ≢ 10) line

-- the text of lines, each with a line feed at its end
abbrev pub text_of_lines : List (List ℕ) → List ℕ
text_of_lines [] = []
text_of_lines (line ∷ earlier) = text_of_lines earlier ++ (line ++ 10 ∷ [])

-- the bytes are these lines, each with a line feed at its end; the last line may have none if it is not empty
abbrev pub IsJoined : List ℕ → List (List ℕ) → Type 0
IsJoined bytes lines = (bytes ≡ text_of_lines lines) ⊎ ((last : List ℕ) × (earlier : List (List ℕ))
    × (lines ≡ last ∷ earlier) × (bytes ≡ text_of_lines earlier ++ last) × (last ≢ []))

-- the findings are what is found in the lines, no line has a line feed, and the counts are the counts of the findings
pub record AreCounted (options : Options) (lines : List (List ℕ)) (findings : List Finding) (tally : Tally) : Type 0 where
  pub found : AllZip (λ line finding. HasNoFeed line × IsFinding options.field line finding) lines findings
  pub all : tally.lines ≡ length findings
  pub classes : (n : ℕ)
      → get_or tally.counts n 0 ≡ how_many (λ finding. class_number (class_of options.limits finding) == n) findings
  pub short_salts : tally.short_salts ≡ how_many (has_short_salt options.limits) findings
  pub equal_salts : tally.equal_salts ≡ repeated findings
  pub other_keys : tally.other_keys ≡ how_many (shows_other_key options.limits) findings

-- the counts are the counts of the lines of these bytes
abbrev pub IsTallied : Options → List ℕ → Tally → Type 0
IsTallied options bytes tally = (lines : List (List ℕ)) × (findings : List Finding) × IsJoined bytes lines
    × AreCounted options lines findings tally

-- the session has counted these lines, and has read `rest` of the next line
pub record IsAt (options : Options) (session : Session) (lines : List (List ℕ)) (rest : List ℕ) : Type 0 where
  pub same : session.options ≡ options
  pub findings : List Finding
  pub counted : AreCounted options lines findings session.tally
  pub salts : (salt : List ℕ) → has_salt session.seen salt ≡ any_salt salt findings
  pub feed : HasNoFeed rest
  pub read : IsRead session.line rest

-- the session has read these bytes, except for `more` at their end
pub record IsBefore (options : Options) (session : Session) (bytes more : List ℕ) : Type 0 where
  pub lines : List (List ℕ)
  pub rest : List ℕ
  pub split : bytes ≡ text_of_lines lines ++ (rest ++ more)
  pub at : IsAt options session lines rest
