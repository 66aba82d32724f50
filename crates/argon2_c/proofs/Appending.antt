-- Writing text after text.
use Rattle.std.proofs.Common.{◌≡◌, ℕ, ◌-◌, ◌++◌, List, [], length, length-append, length-drop, sym, ap, ◌∙◌, arith}
use Rattle.std.specs.Prelude.{drop, take}
use Rattle.std.proofs.Math.Seq.{take-append_seam}
use Rattle.std.proofs.lemmas.List.{append-nil, append_assoc, drop-drop, drop_all, drop_at, take_all}

-- if the first n bytes are a text that was written over `first`, a write of `more` after the text leaves both over `first`
pub IsWrittenOver-append : (n k : ℕ) (old new more text first : List ℕ) → k ≡ length old - n → length text ≡ n →
    old ≡ text ++ drop (length text) first → new ≡ more ++ drop (length more) (take k (drop n old)) →
    take n old ++ (new ++ drop k (drop n old)) ≡ (text ++ more) ++ drop (length (text ++ more)) first
IsWrittenOver-append n k old new more text first part long is wrote =
    let rest = drop (length text) first in
    let left = length-drop n old in
    let before : take n old ≡ text =
    ap (take n) is ∙ ap (λ i. take i (text ++ rest)) (sym long) ∙ take-append_seam text rest in
    let none : drop k (drop n old) ≡ [] = drop_all k (drop n old) (omega arith) in
    let whole : take k (drop n old) ≡ rest =
    take_all k (drop n old) (omega arith) ∙ ap (drop n) is ∙ drop_at text rest n long in
    let after : drop (length more) rest ≡ drop (length (text ++ more)) first =
    drop-drop (length more) (length text) first ∙ ap (λ i. drop i first) (sym (length-append text more)) in
    rw (before, none, append-nil new) (ap (λ x. text ++ x) (wrote ∙ ap (λ x. more ++ drop (length more) x) whole
    ∙ ap (λ x. more ++ x) after) ∙ sym (append_assoc text more (drop (length (text ++ more)) first)))
