-- Rows of names, one by one, and their lines.
use Rattle.argon2_rows.proofs.Imports.{AllByRecursion, get-entries, arith, ap, refl, ◌≡◌, ℕ, List, [], ◌∷◌, map, Option, Some, None, IsSomeAnd, ◌∙◌, Texts, AreTexts, IsUtf8, entries, Row, plain, Index, Forward, order_of}
use Rattle.argon2_rows.proofs.Imports.{sought, Advances, with_cursor, IsLineOf, breaks_line, AreCut, AreCutLines, AreLinesOf, AreWritten, Result, Ok, Err, MatchResult, row_of, rows_of, true, false, Written}
use Rattle.argon2_rows.proofs.Imports.{Appends-kept, Appends-nil, Appends-trans, Keeps, from_key-none, Breaks, Failed}
use Rattle.std.proofs.lemmas.List.Elements.{All-cons, All-nil}
use Rattle.argon2_io.proofs.Prefixes.{prefix_of_longer, text_and_prefix}
use Rattle.std.specs.declared.io.Error.{Error}
use Rattle.argon2_rows.specs.declared.view.View.{View}
use Rattle.argon2_rows.proofs.RowLemmas.{find-each_name}
use Rattle.sqlite_trees.specs.View.{View as Shown}
use Rattle.argon2_rows.specs.declared.view.Written.TheVariants as written

-- the name does not break its line
abbrev Fits : View → List ℕ × List ℕ → Type 0
Fits view e = breaks_line view e.0 ≡ false

-- a line, and then a prefix of other lines, is a prefix of all these lines
AreCutLines-cons : (view : View) (e : List ℕ × List ℕ) (es : List (List ℕ × List ℕ)) (old mid new : Option (List ℕ))
    → IsLineOf view e old mid written.All → AreCutLines view es mid new → AreCutLines view (e ∷ es) old new
AreCutLines-cons view e es old mid new (first, fits) (before, after, is, fit, later) =
    (e ∷ before, after, ap (λ l. e ∷ l) is, All-cons (Fits view) e before fits fit, text_and_prefix _ _ old mid new first later)

-- a line, and then other lines, are all these lines
AreLinesOf-cons : (view : View) (e : List ℕ × List ℕ) (es : List (List ℕ × List ℕ)) (old mid new : Option (List ℕ))
    (how : Written)
    → IsLineOf view e old mid written.All → AreLinesOf view es mid new how → AreLinesOf view (e ∷ es) old new how
AreLinesOf-cons view e es old mid new written.All first later = search (arith, Appends-trans, All-cons)
AreLinesOf-cons view e es old mid new Breaks (first, fits) (before, after, at, is, fit, breaks, later) = (
  e ∷ before,
  after,
  at,
  ap (λ l. e ∷ l) is,
  All-cons (Fits view) e before fits fit,
  breaks,
  Appends-trans old mid new _ _ first later,
)
AreLinesOf-cons view e es old mid new (Failed why) first later = AreCutLines-cons view e es old mid new first later

-- an output to which nothing is written has a prefix of the lines
pub AreCut-nothing : (view : View) (names : Texts) (out : Option (List ℕ)) → AreCut view names out out
AreCut-nothing view names out = ([], entries names, refl, All-nil (Fits view), ([], [], refl, Appends-nil out))

-- The cursor is before the rows of the entries `left`. What becomes of their lines becomes of all lines, and a prefix of their
-- lines makes a prefix of all lines.
abbrev pub IsWriting : View → Shown → Texts → Option (List ℕ) → Option (List ℕ) → Type 0
IsWriting view now names old mid = (left : List (List ℕ × List ℕ)) × (now.cursors 0 ≡ Some (map row_of left))
    × AllByRecursion (λ e. IsUtf8 e.0) left
    × ((out : Option (List ℕ)) (how : Written) → AreLinesOf view left mid out how → AreWritten view names old out how)
    × ((out : Option (List ℕ)) → AreCutLines view left mid out → AreCut view names old out)

-- a row whose line is written is followed by the next row; after any other outcome the lines are as the contract says
abbrev pub GoesOn : View → Shown → Texts → Option (List ℕ) → Option (List ℕ) → Option Written → Type 0
GoesOn view now names old out None = ⊥
GoesOn view now names old out (Some written.All) = IsWriting view now names old out
GoesOn view now names old out (Some how) = AreWritten view names old out how

-- after a seek to the first row no line is written yet
pub IsWriting-begin : (view : View) (first now : Shown) (names : Texts) (out : Option (List ℕ)) → first.shape 0 ≡ Index plain
    → now ≡ with_cursor first 0 (sought (order_of (first.shape 0)) Forward [] (first.trees 0)) → first.trees 0 ≡ rows_of names
    → AreTexts names → IsWriting view now names out out
IsWriting-begin view first now names out shape is rows texts =
    let named = find-each_name IsUtf8 (entries names) (λ k v found. (texts k v (get-entries names k ∙ found)).0) in
    (entries names, grind (arith, from_key-none), named, λ end how lines. lines, λ end cut. cut)

-- the lines of the rows so far are a prefix of all lines
pub AreCut-IsWriting : (view : View) (now : Shown) (names : Texts) (old mid : Option (List ℕ)) → IsWriting view now names old mid
    → AreCut view names old mid
AreCut-IsWriting view now names old mid (left, at, named, rest, cuts) =
    cuts mid ([], left, refl, All-nil (Fits view), ([], [], refl, Appends-nil mid))

module _ (view : View) (now : Shown) (names : Texts) (old mid out : Option (List ℕ)) where
  -- the next row is the row of a name, so its line is written as the contract says
  pub GoesOn-next_row : (next : Shown) (row : Row) → IsWriting view now names old mid → Advances now next 0 row true
      → (wrote : Option Written)
      → ((e : List ℕ × List ℕ) → IsUtf8 e.0 → row ≡ row_of e → IsSomeAnd wrote (IsLineOf view e mid out))
      → GoesOn view next names old out wrote
  GoesOn-next_row next row ([], at, named, rest, cuts) moves wrote its = absurd cc
  GoesOn-next_row next row (e ∷ left, at, named, rest, cuts) moves None its = its e named.0 cc
  GoesOn-next_row next row (e ∷ left, at, named, rest, cuts) moves (Some written.All) its =
      let line = its e named.0 cc in (
        left,
        grind arith,
        named.1,
        λ end how more. rest end how (AreLinesOf-cons view e left mid out end how line more),
        λ end more. cuts end (AreCutLines-cons view e left mid out end line more),
      )
  GoesOn-next_row next row (e ∷ left, at, named, rest, cuts) moves (Some Breaks) its =
      let line = its e named.0 cc in
      rest out Breaks ([], left, e, refl, All-nil (Fits view), line.1, Appends-kept mid mid out [] (Appends-nil mid) line.0)
  GoesOn-next_row next row (e ∷ left, at, named, rest, cuts) moves (Some (Failed why)) its =
      let line = its e named.0 cc in
      rest out (Failed why) (
        e ∷ [],
        left,
        refl,
        All-cons (Fits view) e [] line.1 (All-nil (Fits view)),
        prefix_of_longer _ [] mid out line.0,
      )

  -- after the last row all lines are written, and the flush tells the outcome
  pub AreWritten-end : IsWriting view now names old mid → now.cursors 0 ≡ Some [] → Keeps mid out
      → (done : Result (Unit {0}) Error) (how : Written) → MatchResult done (λ _. how ≡ written.All) (λ why. how ≡ Failed why)
      → AreWritten view names old out how
  AreWritten-end ([], at, named, rest, cuts) ended kept (Ok x) how is =
      rw is (rest out written.All (Appends-kept mid mid out [] (Appends-nil mid) kept, All-nil (Fits view)))
  AreWritten-end ([], at, named, rest, cuts) ended kept (Err why) how is =
      rw is (rest out (Failed why)
      ([], [], refl, All-nil (Fits view), ([], [], refl, Appends-kept mid mid out [] (Appends-nil mid) kept)))
  AreWritten-end (e ∷ left, at, named, rest, cuts) ended kept done how is = absurd cc
