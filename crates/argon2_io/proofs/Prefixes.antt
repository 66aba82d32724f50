-- Prefixes of a text that known bytes grow by.
use Rattle.std.proofs.Common.{◌≡◌, ◌∙◌, ◌++◌, ◌+◌, ◌<◌, ℕ, List, Option, sym, ap, take, drop, length, slice_index_or, take-append-drop, append_assoc, append-nil, subst, []}
use Rattle.std.proofs.KnownBytes.{Appends-kept, Appends-trans}
use Rattle.std.proofs.Math.Seq.{take-add}
use Rattle.std.proofs.lemmas.Grind.{flat_map-append}
use Rattle.std.proofs.lemmas.List.{drop_more}
use Rattle.std.proofs.lemmas.List.Concat.{flat_map-cons}
use Rattle.std.specs.Io.KnownBytes.{Appends, Keeps}
use Rattle.std.specs.List.{flat_map}
use Rattle.argon2_io.specs.Lines.{AppendsPrefix}

-- the first bytes of a text are a prefix of it
pub first_are_prefix : (i : ℕ) (text : List ℕ) (a b : Option (List ℕ)) → Appends a b (take i text) → AppendsPrefix a b text
first_are_prefix i text a b grown = (take i text, drop i text, sym (take-append-drop i text), grown)

-- a whole text is a prefix of itself
pub whole_is_prefix : (text : List ℕ) (a b : Option (List ℕ)) → Appends a b text → AppendsPrefix a b text
whole_is_prefix text a b grown = (text, [], sym (append-nil text), grown)

-- the first i bytes and then the next j bytes are the first i + j bytes
pub first_and_next : (i j : ℕ) (text : List ℕ) (a b c : Option (List ℕ)) → Appends a b (take i text)
    → Appends b c (take j (drop i text)) → Appends a c (take (i + j) text)
first_and_next i j text a b c first next =
    subst (Appends a c) (sym (take-add i j text)) (Appends-trans a b c _ _ first next)

-- a text, and then a prefix of another, is a prefix of both
pub text_and_prefix : (text other : List ℕ) (a b c : Option (List ℕ)) → Appends a b text → AppendsPrefix b c other
    → AppendsPrefix a c (text ++ other)
text_and_prefix text other a b c first (begin, rest, is, next) =
    (text ++ begin, rest, ap (λ l. text ++ l) is ∙ sym (append_assoc text begin rest), Appends-trans a b c _ _ first next)

-- a prefix of a text is a prefix of a longer text
pub prefix_of_longer : (text more : List ℕ) (a b : Option (List ℕ)) → AppendsPrefix a b text → AppendsPrefix a b (text ++ more)
prefix_of_longer text more a b (begin, rest, is, grown) =
    (begin, rest ++ more, ap (λ l. l ++ more) is ∙ append_assoc begin rest more, grown)

-- a prefix stays a prefix while the bytes stay
pub prefix_that_stays : (text : List ℕ) (a b c : Option (List ℕ)) → AppendsPrefix a b text → Keeps b c → AppendsPrefix a c text
prefix_that_stays text a b c (begin, rest, is, grown) same = (begin, rest, is, Appends-kept a b c begin grown same)

-- the pieces of the values before one, and then a prefix of its own pieces, are a prefix of all pieces
pub prefix_of_each : {A : Type 0} (f : A → List ℕ) (xs : List A) (i : ℕ) (d : A) (a b c : Option (List ℕ)) → i < length xs
    → Appends a b (flat_map f (take i xs)) → AppendsPrefix b c (f (slice_index_or xs i d)) → AppendsPrefix a c (flat_map f xs)
prefix_of_each f xs i d a b c lt before piece =
    let x = slice_index_or xs i d in
    let after = flat_map f (drop (i + 1) xs) in
    let split : flat_map f xs ≡ flat_map f (take i xs) ++ (f x ++ after) =
    ap (flat_map f) (sym (take-append-drop i xs)) ∙ flat_map-append f (take i xs) (drop i xs)
    ∙ ap (λ l. flat_map f (take i xs) ++ l) (ap (flat_map f) (drop_more xs i d lt) ∙ flat_map-cons f x (drop (i + 1) xs)) in
    subst (AppendsPrefix a c) (sym split) (text_and_prefix _ _ a b c before (prefix_of_longer (f x) after b c piece))
