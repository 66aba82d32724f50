-- The lines of an input, read one by one.
use Rattle.argon2_passwd.proofs.Common.{[], All, AllZip, ap, append_assoc, arith, common_steps, false, IsFirstMatchOrLen, length, line_of, lines, lines_of_parts}
use Rattle.argon2_passwd.proofs.Common.{List, map, min, refl, slice_split, strip_carriage_return, strip_last, sym, take, ℕ, ⊎_elim, ◌++◌, ◌+◌, ◌<◌, ◌==◌, ◌∙◌, ◌∷◌, ◌≡◌}
use Rattle.std.proofs.lemmas.Bool.{cases_lt}
use Rattle.std.proofs.lemmas.List.{map-append}
use Rattle.std.proofs.lemmas.List.Splits.{length-slice_split, slice_split_at, slice_split_none}

-- a part before others is a line without its carriage return
lines_of_parts-cons : (part : List ℕ) (parts : List (List ℕ)) → 0 < length parts
    → lines_of_parts (part ∷ parts) ≡ strip_carriage_return part ∷ lines_of_parts parts
lines_of_parts-cons part parts some = grind arith

-- both ways to strip a carriage return give the same line
strip_last-carriage_return : (line : List ℕ) → strip_last 13 line ≡ strip_carriage_return line
strip_last-carriage_return [] = refl
strip_last-carriage_return (b ∷ line) = grind arith

-- a line with its line feed has the same text as without
line_of-feed : (line : List ℕ) → line_of (line ++ 10 ∷ []) ≡ strip_carriage_return line
line_of-feed line = grind (arith, common_steps, strip_last-carriage_return)

-- the lines of a line with its line feed and what follows
lines-feed : (line after : List ℕ) → All (λ b. (b == 10) ≡ false) line
    → lines (line ++ 10 ∷ after) ≡ line_of (line ++ 10 ∷ []) ∷ lines after
lines-feed line after none =
    ap lines_of_parts (slice_split_at (λ b. b == 10) line 10 after none refl)
    ∙ lines_of_parts-cons line (slice_split (λ b. b == 10) after) (omega (arith, length-slice_split (λ b. b == 10) after))
    ∙ ap (λ l. l ∷ lines after) (sym (line_of-feed line))

-- the lines of a last line without a line feed
lines-last : (line : List ℕ) → 0 < length line → All (λ b. (b == 10) ≡ false) line → lines line ≡ line_of line ∷ []
lines-last line some none =
    let part = ap lines_of_parts (slice_split_none (λ b. b == 10) line none) in grind (arith, common_steps)

-- the first line ends at the first line feed, or is the whole input
pub lines_first : (rest line after : List ℕ) (i : ℕ) → 0 < length rest → rest ≡ line ++ after
    → length line ≡ min (i + 1) (length rest) → IsFirstMatchOrLen (λ b. b == 10) rest i → lines rest ≡ line_of line ∷ lines after
lines_first rest line after i some whole long first = ⊎_elim
    (λ inside.
    let feed = first.1 inside 0 in
    let front : line ≡ take i rest ++ 10 ∷ [] = grind (arith, common_steps) in
    let all : rest ≡ take i rest ++ 10 ∷ after = grind (arith, common_steps) in
    rw front (ap lines all ∙ lines-feed (take i rest) after (λ k d below. grind (arith, common_steps, first.0 k d))))
    (λ outside.
    let end : after ≡ [] = grind (arith, common_steps) in
    let all : rest ≡ line = grind (arith, common_steps) in
    rw (all, end) (lines-last line (grind (arith, common_steps)) (λ k d below. grind (arith, common_steps, first.0 k d))))
    (cases_lt i (length rest))

-- mapping a list with one more element
pub map-push : {A B : Type 0} (f : A → B) (found : List A) (x : A) (rest : List B)
    → map f found ++ f x ∷ rest ≡ map f (found ++ x ∷ []) ++ rest
map-push f found x rest = simp (map-append, append_assoc)

-- an empty input has no lines
pub lines-empty : {X : Type 0} (P : List ℕ → X → Type 0) (bytes : List ℕ) → length bytes ≡ 0 → AllZip P (lines bytes) []
lines-empty P [] none = tt
lines-empty P (b ∷ bytes) none = absurd (omega arith)
