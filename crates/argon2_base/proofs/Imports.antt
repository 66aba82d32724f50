-- The words that the proofs of this crate use.
pub use Rattle.std.proofs.Common.{All, Bool, Err, List, None, Ok, Option, Result, Some, T, [], add-one, add-zero, ap, ap₂, arith, codes, drop, false, if◌then◌else◌, inl, inr, length}
pub use Rattle.std.proofs.Common.{length-append, length-drop, lit<, ltb, map, min, nat_le, nat_lt, not, refl, replicate, rules, slice_index, slice_index_or, suc, sym, take, true, zero}
pub use Rattle.std.proofs.Common.{zero-add, ℕ, ◌%◌, ◌&&◌, ◌*◌, ◌++◌, ◌+◌, ◌-◌, ◌/◌, ◌<◌, ◌==◌, ◌^◌, ◌∙◌, ◌∷◌, ◌≡◌, ◌≢◌, ◌≤◌}
pub use Rattle.std.proofs.lemmas.Bool.{and_parts, cases_lt, eqb-false, le-leb, le-ltb, lt-ltb, ne_eqb}
pub use Rattle.std.proofs.lemmas.Bool.Decides.{Decides-and, nat_tests}
pub use Rattle.std.proofs.lemmas.Fmt.{IsAscii-decimal, decimal_by_steps, decimal_is_IsNumeral, parse-decimal}
pub use Rattle.std.proofs.lemmas.Grind.{common_steps, same_number_lists}
pub use Rattle.std.proofs.lemmas.List.{drop-append-le, drop-drop, drop-replicate, drop_all, ext_get_or, get_or-append_right, get_or-map, get_or-replicate, get_or_append_left}
pub use Rattle.std.proofs.lemmas.List.{length-replicate, take-append-drop, take-append-le, take_all, take_at, take_rest}
pub use Rattle.std.proofs.lemmas.List.Elements.{All-from_get_or, All-from_recursion, All-get_or, recursion_from_All}
pub use Rattle.std.proofs.lemmas.List.Folds.{length-flat_map-take, list_all-append, list_all_at}
pub use Rattle.std.proofs.lemmas.List.FromFn.{get_or-map-range_with_len, length-map-range_with_len}
pub use Rattle.std.proofs.lemmas.List.Splits.{join_with_byte-slice_split, length-slice_split, slice_split_at, slice_split_none}
pub use Rattle.std.proofs.lemmas.Nat.{le_or_l, le_or_r, xor_comm}
pub use Rattle.std.proofs.lemmas.Simd.{get_or-chunk, get_or-zip2, length-zip2, pick_l_whole}
pub use Rattle.std.proofs.lemmas.Slice.{drop-append-drop, take-put_mid}
pub use Rattle.std.proofs.lemmas.Slice.Eq.{bytes_eq-Decides}
pub use Rattle.std.proofs.lemmas.Str.{IsUtf8-append, IsUtf8-from_ascii, IsUtf8-nil}
pub use Rattle.std.proofs.lemmas.Str.Ascii.{IsAscii-cons, IsAscii-from_all, IsAscii-nil}
pub use Rattle.std.proofs.lemmas.Str.Pattern.{split_parts, strip_prefix_char}
pub use Rattle.std.specs.Borrow.{Bor}
pub use Rattle.std.specs.Cmp.Lexicographic.{nat_list_eq_equiv, pointwise_decides}
pub use Rattle.std.specs.Fmt.{decimal}
pub use Rattle.std.specs.Int.{from_le_bytes, to_le_bytes, w32, w64}
pub use Rattle.std.specs.List.{AllByRecursion, flat_map, join_with_byte, list_all, range_with_len, slice_split}
pub use Rattle.std.specs.Prelude.{IfSome, IsNone, IsSome, is_none, is_some}
pub use Rattle.std.specs.Simd.Lanes.{pick_l, zip2}
pub use Rattle.std.specs.Str.{IsUtf8, bytes_eq}
pub use Rattle.argon2_base.specs.Blake2b.{block_count, blocks, initial_state, sigma}
unfoldable pub use Rattle.argon2_base.specs.Blake2b.{blake2b, compress, hash_blocks, round, rounds}
pub use Rattle.argon2_base.specs.Block.{bytes_of}
unfoldable pub use Rattle.argon2_base.specs.Block.{by_columns, by_rows, column, gb, mix_columns, mix_diagonals, mixed, perm, row, words_of, xor_blocks}
pub use Rattle.argon2_base.specs.ByteList.{IsBase64Cause, base64_length}
pub use Rattle.argon2_base.specs.Hasher.{Hasher, blocks_before, held_len}
unfoldable pub use Rattle.argon2_base.specs.Hasher.{Holds, hash_after, hash_on}
pub use Rattle.argon2_base.specs.Lanes.{column_lanes, exchanged_left, exchanged_right, row_in_fours, group, half_word, lane, lane_word, column_in_pairs, vector_words, written}
unfoldable pub use Rattle.argon2_base.specs.Lanes.{words_in_eights}
pub use Rattle.argon2_base.specs.LongHash.{half, joined}
unfoldable pub use Rattle.argon2_base.specs.LongHash.{chain, long_hash}
pub use Rattle.argon2_base.specs.PhcFields.{HasNoItemFirst, HasNoVersionFirst, fields_left, fields_of, phc_of}
pub use Rattle.argon2_base.specs.PhcText.{HasBytes, IsPhc, Lacks, Pair, IsParamsText, Phc, IsPhcText, are_distinct, are_params, field, fields, fields_text, is_param, item, items_left, items_of}
pub use Rattle.argon2_base.specs.PhcText.{list_field, pair_of, pairs_eq, pairs_left, pairs_of, params_text, phc_eq, phc_text, value_of, version_text, with_item}
pub use Rattle.argon2_base.specs.Texts.{IsBytes, alphabet, is_name, is_name_char, is_value, is_value_char, number_of, short_bytes}
unfoldable pub use Rattle.argon2_base.specs.Texts.{strict_base64}
pub use Rattle.base64.specs.Engines.{standard_no_pad}
pub use Rattle.base64.specs.GeneralPurpose.{decode_of, decode_slice_of, decoded_bytes_of, encode_of, encoded_size_of}
unfoldable pub use Rattle.base64.specs.GeneralPurpose.{decoded_of}
unfoldable pub use Rattle.base64.specs.Rfc4648.{encode_symbols}
pub use Rattle.base64.specs.declared.decode.DecodeError.{DecodeError}
pub use borrow.Rule.Slice.PartMut.{post_of, put_mid}
