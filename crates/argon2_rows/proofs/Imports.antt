-- The words that the proofs of this crate use.
pub use Rattle.std.proofs.Common.{Bool, Err, IsPermutation, IsSome, IsTrue, IsUtf8, List, None, Ok, Option, Ordering, Result, Some, T, [], ap, arith, cond, false}
pub use Rattle.std.proofs.Common.{inl, inr, length, lit<, map, not, refl, rules, sym, take, true, unwrap_or, ℕ, ◌++◌, ◌<◌, ◌∙◌, ◌∷◌, ◌≡◌, ◌≢◌, ◌⊎◌, ◌↔◌}
pub use Rattle.std.proofs.lemmas.Cmp.{tied_itself, alike_right}
pub use Rattle.std.proofs.lemmas.List.{get_or-map, length-map, map_more, take-map, take_all, map-id}
pub use Rattle.std.proofs.lemmas.Slice.Eq.{bytes_eq-Decides}
pub use Rattle.std.proofs.KnownBytes.{Appends-kept, Appends-nil, Appends-trans}
pub use Rattle.std.specs.Cmp.Lexicographic.{nat_list_cmp_total, slice_cmp}
pub use Rattle.std.specs.FinMap.{entries, entries-from_sorted, entries-insert, entries_sorted, find, from_sorted, get, get-entries, get-from_sorted, get-insert, get-remove, insert, is_sorted}
pub use Rattle.std.specs.FinMap.{nat_cmp-IsAntisymmetric, put, remove, same_entries_map, same_map, slice_cmp-IsAntisymmetric}
pub use Rattle.std.specs.List.{AllByRecursion, flat_map}
pub use Rattle.std.specs.Ordering.{eq_by_cmp, nat_cmp, ordering_then, is_gt}
pub use Rattle.std.specs.Prelude.{Any, IfErr, IfSome, IsErrAnd, IsSomeAnd, MatchResult, OnOk, ⊤}
pub use Rattle.std.specs.Str.{bytes_eq, chars}
pub use Rattle.sqlite_value.specs.Keys.{entry_cmp, plain, prefix_cmp}
pub use Rattle.sqlite_value.specs.Order.{Row, column, row_cmp}
pub use Rattle.sqlite_trees.specs.Tree.{IsIndex, Trees, from_key, insert_entry, order_of, remove_entry, sought}
pub use Rattle.sqlite_trees.specs.View.{Advances, IsStorable, KeepsSchema, View, with_cursor, HasCause, doubt}
pub use Rattle.sqlite_trees.specs.declared.store.Direction.TheVariants.{Forward}
pub use Rattle.sqlite_store.proofs.RowLemmas.{from_key-none}
pub use Rattle.argon2_rows.specs.Names.{AddsAll, AddsEach, Texts, changed, entry_of, Bor, StoredText, AddError, Store, Taken}
pub use Rattle.argon2_rows.specs.Lines.{AreCut, AreCutLines, AreLinesOf, AreWritten, IsLineOf, breaks_line, shown_char, Appends, Keeps, Written, Breaks, Failed}
pub use Rattle.argon2_rows.specs.Rows.{AreLines, AreTexts, HasNoneAfter, IsAccount, IsAfterAll, IsFoundAs, row_of, rows_of, Later, Name, Text}
pub use Rattle.argon2_rows.specs.Table.{Changes, EndsRead, Finishes, HasBegun, HasRows, HasSome, IsHonest, IsHuge, IsKept, IsLong, IsOpen, CrashLeaves, Sees, StaysQuiet, AddsNames, Writes}
pub use Rattle.argon2_rows.specs.Table.{WritesAll, done_of, written_of, IsDue, TellsFault, StoreError, Io, Index, Ghosts, MoreFaults}
