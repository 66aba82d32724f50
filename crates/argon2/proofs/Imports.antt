-- The words that the proofs of this crate use.
pub use Rattle.std.proofs.Common.{Bool, Err, Fits, List, None, Ok, Option, Result, Some, [], add-one, ap, append-nil, ap₂, arith, codes, drop, false, fold, if◌then◌else◌, inl, inr, length}
pub use Rattle.std.proofs.Common.{map, option_copied, refl, replicate, rules, slice_index, string_bytes, subst, suc, sym, take, true, w8, zero, ℕ, ◌%◌, ◌&&◌, ◌*◌, ◌++◌, ◌+◌, ◌-◌, ◌/◌, ◌<◌}
pub use Rattle.std.proofs.Common.{◌^◌, ◌∙◌, ◌∷◌, ◌≡◌, ◌≢◌, ◌≤◌, ◌⊎◌, length-append, w32}
pub use Rattle.std.proofs.Math.Nat.{div-eq_of_lt-le, div-lt_iff_lt-mul, div-mul-le_self, lt-mul-div-succ, mod-eq-sub-div-mul, mod-lt, mul-le-mul, mul-le-mul_left, mul-le-mul_right}
pub use Rattle.std.proofs.lemmas.Bool.{and_parts, cases_eq, cases_lt, cond_both, eqb-true, le-leb}
pub use Rattle.std.proofs.lemmas.Bool.Decides.{nat_tests}
pub use Rattle.std.proofs.lemmas.Grind.{common_steps}
pub use Rattle.std.proofs.lemmas.List.{drop-map, drop-replicate, ext_get_or, get_or-append_right, get_or-drop, get_or-map, get_or-set_other, get_or-set_same, get_or-take, get_or_append_left}
pub use Rattle.std.proofs.lemmas.List.{get_or_push, length-map, length-replicate, length-set, length-take, length-take-le, length_push, map-append, map-id, map-set, take-map}
pub use Rattle.std.proofs.lemmas.List.FromFn.{fill_by_all, get_or-map-range_with_len, get_or-range_with_len, length-map-range_with_len, length-range_with_len, map-range_with_len_more}
pub use Rattle.std.proofs.lemmas.List.Sums.{fold_push, sum_by-append, sum_by-cons}
pub use Rattle.std.proofs.lemmas.Map.Text.{btree_map_updates_text, is_eq-slice_cmp}
pub use Rattle.std.proofs.lemmas.Nat.{div-mul-add, div_below, le-div, mod-mul-add, mul-add-lt, same_from_place, div-add-mod'}
pub use Rattle.std.proofs.lemmas.Slice.Eq.{bytes_eq-Decides}
pub use Rattle.std.specs.Cmp.Lexicographic.{nat_list_cmp_total, nat_list_eq_equiv, slice_cmp}
pub use Rattle.std.specs.FinMap.{empty, entries, entries-from_sorted, find, from_sorted, get, get-empty, get-from_entries, get-from_sorted, get-insert, insert, is_sorted}
pub use Rattle.std.specs.FinMap.{nat_cmp-IsAntisymmetric, same_map, slice_cmp-IsAntisymmetric}
pub use Rattle.std.specs.Fmt.{decimal}
pub use Rattle.std.specs.List.{All, AllByRecursion, flat_map, list_all, range_with_len, sum_by}
pub use Rattle.std.specs.Option.{is_some, option_and_then, option_map, option_or}
pub use Rattle.std.specs.Ordering.{is_lt, nat_cmp}
pub use Rattle.std.specs.Prelude.{IfOk, IfSome, IsNone, IsSome, IsSomeAnd, MatchResult, String, nat_lt, slice_index_or, slice_set, ◌==◌}
pub use Rattle.std.specs.Result.{IsErr, IsErrAnd, result_ok}
pub use Rattle.argon2.specs.Argon2.{context_of, context_under, context_with, own_bytes, own_parameters, parameters_of, secret_of, settings_of}
pub use Rattle.argon2.specs.Hashing.{ChecksFirst, IsBegun, KeepsOtherColumns, KeepsRest, blocks_of, refusal_of}
pub use Rattle.argon2.specs.Laws.{AreAlike, AreSchedules, Begins, IsRecurrence}
pub use Rattle.argon2.specs.Layout.{IsSize, MayReferTo, Memory, HasSizes, place_of}
unfoldable pub use Rattle.argon2.specs.Layout.{addresses_at, matrix, matrix_of, reference_places}
pub use Rattle.argon2.specs.ListedParameters.{Items, bytes_item, found_of, item_fault, item_taken, items_fault, items_of, items_over, items_read, list_of, parameter_items, params_of}
pub use Rattle.argon2.specs.Login.{IsAddStep, Event, IsLoginAnswer, adding, logging_in, store_of, target_value}
pub use Rattle.argon2.specs.NamedTexts.{IsCurrent, KeepsOthers, Leaves, Store, named_values, newest, values_of, with_texts}
pub use Rattle.argon2.specs.Rfc9106.{Blocks, Context, FirstColumns, IsValid, Reference, address_counter, block_after, block_count, block_count_for, lane_length, number, segment_length}
pub use Rattle.argon2.specs.Rfc9106.{with_length}
unfoldable pub use Rattle.argon2.specs.Rfc9106.{address_block, address_word, block_of, columns, finished_segments, first_block, history, in_history, initial_hash, is_independent, last_block}
unfoldable pub use Rattle.argon2.specs.Rfc9106.{made_block, permitted, previous, reference, reference_index, reference_lane, reference_of, reference_word, rule, segment_length_for, tag_of}
unfoldable pub use Rattle.argon2.specs.Rfc9106.{xor_lanes}
pub use Rattle.argon2.specs.SegmentSteps.{IsStepAt, column_of}
pub use Rattle.argon2.specs.Segments.{AreParts, BeginsLanes, BeginsSlices, FillsSegment, IsFilledBySegments, IsPlaceFor, last_of_slice, segment_in, slice_length, slices_after, slices_before}
pub use Rattle.argon2.specs.Settings.{IsReadBy, Parameters, SettingsValue, algorithm_name, algorithm_named, cost_parameters, first_fault, version_number, version_numbered}
pub use Rattle.argon2.specs.Steps.{IsSchedule, IsStep, last_column, previous_place, turn_count, turns}
unfoldable pub use Rattle.argon2.specs.Steps.{in_memory, reference_place, run, run_passes, run_slices, step}
pub use Rattle.argon2.specs.StoredTexts.{Accepts, AcceptsBy, IsVerifyAnswer, is_tag, result_and_then, settings_value, shown_settings, stored_of, verify_outcome}
pub use Rattle.argon2.specs.TextHashing.{IsHashAnswer, IsTarget, TargetValue, algorithm_or_default, hash_outcome, hash_value, tag_length, target_of, with_tag_length}
pub use Rattle.argon2.specs.WatchedFilling.{Fills, HasBlocksUpTo, HasPositionsUpTo, IsFilledFrom, IsFilledUpTo, Watches, columns_before, in_order, position_index}
unfoldable pub use Rattle.argon2.specs.WatchedFilling.{address_mixings, independent_segments, mixing_calls, segment_calls, slices_calls}
pub use Rattle.argon2.specs.declared.algorithm.Algorithm.{Algorithm}
pub use Rattle.argon2.specs.declared.context.Argon2.{Argon2}
pub use Rattle.argon2.specs.declared.context.fill.Step.{Step}
pub use Rattle.argon2.specs.declared.login.answers.Accepted.{Accepted}
pub use Rattle.argon2.specs.declared.login.answers.Accepted.TheVariants.{Current, Kept, Rehashed}
pub use Rattle.argon2.specs.declared.login.answers.LoginError.{LoginError}
pub use Rattle.argon2.specs.declared.login.answers.LoginError.TheVariants.{Refused}
pub use Rattle.argon2.specs.declared.version.Version.{Version}
pub use Rattle.argon2_base.proofs.block_lemmas.MixingLaws.{mixed-comm, xor_blocks-comm}
pub use Rattle.argon2_base.proofs.phc_lemmas.Base64Lemmas.{length-strict_base64, short_bytes_again, short_bytes_refused}
pub use Rattle.argon2_base.proofs.phc_lemmas.DecimalLemmas.{number_again}
pub use Rattle.argon2_base.specs.Blake2b.{blocks, initial_state}
unfoldable pub use Rattle.argon2_base.specs.Blake2b.{blake2b, compress, hash_blocks}
pub use Rattle.argon2_base.specs.Block.{bytes_of}
unfoldable pub use Rattle.argon2_base.specs.Block.{add_mul, by_columns, by_rows, column, gb, mix_columns, mix_diagonals, mixed, perm, row, xor_blocks, xor_rotate, zero_block}
pub use Rattle.argon2_base.specs.ByteList.{base64_length, list_bytes}
pub use Rattle.argon2_base.specs.Error.{Fault, fault_of, outcome_of}
pub use Rattle.argon2_base.specs.declared.error.Error.{Error}
pub use Rattle.argon2_base.specs.declared.error.password_hash.Error.{Error as HashError}
pub use Rattle.argon2_base.specs.LongHash.{long_hash}
pub use Rattle.argon2_base.specs.PhcFields.{phc_of}
pub use Rattle.argon2_base.specs.PhcText.{HasBytes, IsPhc, Pair, Phc, are_distinct, are_params, ident_text, is_param, item, params_text, phc_text, value_of}
pub use Rattle.argon2_base.specs.Texts.{IsBytes, is_value, is_value_char, number_of, strict_base64, short_bytes}
pub use Rattle.argon2_base.specs.declared.error.password_hash.Error.TheVariants.{OutOfMemory, Algorithm as NoAlgorithm}
pub use Rattle.argon2_base.specs.declared.phc.hash.PasswordHash.{PasswordHash}
pub use Rattle.rand_core.specs.Stream.{fill_bytes}
