use Rattle.argon2_base.proofs.Imports.{◌≡◌, ℕ, ◌<◌, slice_index_or}
use Rattle.argon2_base.proofs.phc.compare.are_equal.Given as goal

abbrev pub invariant-loop-i : goal.invariant-loop-i
invariant-loop-i l = record {
  same : l.difference ≡ 0 → (k : ℕ) → k < l.i → slice_index_or l.a k 0 ≡ slice_index_or l.b k 0;
  none : l.a ≡ l.b → l.difference ≡ 0;
}
