-- The words that the proofs of this crate use.
pub use Rattle.std.proofs.Common.{Bool, Err, IsTrue, IsUtf8, List, None, Ok, Option, Result, Some, [], ap, append_assoc, ap₂, arith, false, inl, inr, length, map, refl, rules, slice_index}
pub use Rattle.std.proofs.Common.{string_bytes, subst, suc, zero, subst₂, sym, true, unwrap_or, ℕ, ◌++◌, ◌<◌, ◌↔◌, ◌∙◌, ◌∷◌, ◌≡◌, ◌≢◌, ◌≤◌, ◌⊎◌, ◌+◌, ◌*◌, codes, take, IsSome}
pub use Rattle.std.proofs.Math.Logic.{∥∥₁_elim, ∥∥₁_map}
pub use Rattle.std.proofs.lemmas.Bool.{cases_Bool, cases_eq, both_ways}
pub use Rattle.std.proofs.lemmas.List.{get_or-map, length-map, nil_from_length}
pub use Rattle.std.proofs.lemmas.Result.{on_ok_weaker}
pub use Rattle.std.proofs.lemmas.Slice.Eq.{bytes_eq-Decides}
pub use Rattle.std.proofs.option.Match.{None-if_not_some}
pub use Rattle.std.specs.FinMap.{empty, get, get-empty}
pub use Rattle.std.specs.List.{flat_map, range_with_len}
pub use Rattle.std.specs.Option.{option_copied, option_map}
pub use Rattle.std.specs.Prelude.{Any, IfErr, IfOk, IfSome, IsErrAnd, IsSomeAnd, OnOk}
pub use Rattle.sqlite_pool.proofs.StateLemmas.{clean_if_left, clean_is, size_is_allowed}
pub use Rattle.sqlite_pool.specs.Stored.{Recovers, RecoversAs, reserved, sealed, stored_size}
pub use Rattle.sqlite_pool.specs.StoredLaws.{RecoversAs-from, length-sealed, readable, recovers_once, trimmed_whole}
pub use Rattle.sqlite_store.specs.FileStore.{files, reading, recovers, schema_in, schema_of, state, view}
pub use Rattle.sqlite_store.specs.Laws.{not_broken, settled_at}
pub use Rattle.sqlite_store.specs.Listed.{catalog_rows, same_listing}
pub use Rattle.sqlite_store.specs.Saved.{kept_schema}
pub use Rattle.sqlite_store.specs.Unopened.{files_of, image, state_of, wanted_by}
pub use Rattle.sqlite_store.specs.declared.store.FileStore.{FileStore}
pub use Rattle.sqlite_trees.proofs.Doubt.{clean_of, no_doubt}
pub use Rattle.sqlite_wal.proofs.CleanLemmas.{halves}
pub use Rattle.sqlite_wal.proofs.LogLemmas.{SeenMayStay}
pub use Rattle.sqlite_wal.proofs.PartLemmas.{held_is_part, part_within, slice_index-part}
pub use Rattle.sqlite_wal.specs.declared.error.Error.{Error as LogError}
pub use Rattle.sqlite_wal.specs.Format.{checksum, is_big, part}
pub use Rattle.sqlite_wal.specs.Recovery.{AreWhole, Image, IsIgnored, Replays, header}
pub use Rattle.argon2_store.specs.Opening.{AreHeld, AreSound, HoldSoundly, AreUnharmed, IsFoundIn, HoldsNames, IsAfterOpens, IsTableOf, IsUnstarted, LeavesNames, MayHave, StandsFor, HasOtherFormat, HasVersion, IsDamaged, IsOfDamage, IsOfFormat, IsOfPair, ListsOne}
pub use Rattle.argon2_store.specs.Opening.{IsBlankFile, Row, Table, outcomes, seen_image, AreClean, OnlyReads, PageMap, Wanted, IsSoundFile, header_in, version_in}
pub use Rattle.argon2_rows.specs.Table.{Changes, HasFailed, HasRows, HoldsTable, IsUnwritten, IsHonest, IsHuge, IsLong, IsOpen, Sees, CrashLeaves, StaysQuiet, account, AddsNames, Finishes, Writes, catalog, TellsFault}
pub use Rattle.argon2_rows.specs.Rows.{AreLines, AreTexts, rows_of}
pub use Rattle.argon2_rows.specs.Table.{doubt, IsKept, StoreError, Index, Ghosts, Trees, catalog_tree, IsClean, plain}
pub use Rattle.argon2_rows.specs.Names.{AddsAll, IsFirstTaken, Texts, changed, entry_of}
pub use Rattle.argon2_rows.proofs.RowLemmas.{rows_of-injective, get-changed_any, changed-restores, IsLong-IsHuge, AreTexts-changed}
pub use Rattle.argon2_rows.proofs.TableLemmas.{IsSettled, KeepsRows, err_is, crash_leaves-quiet, OnOk-constant, StaysQuiet-refl, HasRows-same_view, HasSome-map, Changes-Finishes, HasRows-Changes, KeepsRows-EndsRead, index_shape-HasSome, HasRows-undo, Writes-map}
pub use Rattle.argon2_store.specs.AccountFile.{Answers, IsClosed, IsErrorAt, EditsText, Makes, Serves, Stays, error_of, database_of, HasNames, IsReady, HasCause, HasFailedBy, NamesStay, AccountFile}
pub use Rattle.argon2_store.specs.Edits.{AddsShortName, IsOverlong, IsTooLong, EditValue, NamedEdit, adding, additions, edit_value, gives, left_by, names_after, refusal}
pub use Rattle.argon2_store.specs.Errors.{log_error, call_error, is_refusal, read_of, IsOfDatabase, lines_by, read_by, FileError, Closed, NameTaken, OutOfMemory, OpenError}
pub use Rattle.argon2_store.specs.Runs.{AreEventsOf, AreMade, DoAll, Does, EndsRun, FileCall, FileEvent, FileRun, IsFoundAfter, IsLate, IsLateOf, IsShutOut, events_of, makes, over_file, reads, text_by}
