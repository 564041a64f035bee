-- Names that many proofs use, which they import from here.
use Rattle.ptflow.specs
use Rattle.std.proofs.lemmas
pub use Rattle.std.proofs.Common.{Bool, Err, Fits, List, None, Ok, OnErr, Option, Result, Some, [], add-one, ap}
pub use Rattle.std.proofs.Common.{append_assoc, arith, bit_and, bit_or, cond, drop, drop-cons, eqb, false, get_or}
pub use Rattle.std.proofs.Common.{get_or-drop, get_or-take, inl, inr, leb, length, length-append, length-drop, ltb, map}
pub use Rattle.std.proofs.Common.{max, min, negsuc, not, pos, refl, replicate, set, slice_index, slice_index_or, rules}
pub use Rattle.std.proofs.Common.{slice_set, subst, suc, sym, take, take-append-drop, true, w8, zero, ℕ, ℤ, ⊎_elim, ◌%◌}
pub use Rattle.std.proofs.Common.{◌&&◌, ◌*◌, ◌++◌, ◌+◌, ◌-◌, ◌/◌, ◌<◌, ◌==◌, ◌^◌, ◌||◌, ◌∙◌, ◌∷◌, ◌≡◌, ◌≢◌, ◌≤◌, ◌⊎◌}
pub use Rattle.std.proofs.Math.Nat.{add-mod_left, mod-add-mod, mod-eq_of_lt, mod-lt}
pub use Rattle.std.proofs.Math.Seq.{take-add, take-append-add, take-set-lt}
pub use lemmas.Bool.{cases_Bool, cases_eq, cases_lt, eq-eqb, eqb-false, eqb-true, false_from_ne_true, false≢true}
pub use lemmas.Bool.{le-ltb, lt-ltb, ne_eqb}
pub use lemmas.Bool.Decides.{nat_tests}
pub use lemmas.Grind.{and_numeral, get_or_after_one}
pub use lemmas.List.{append-nil, append_cancel_right, drop-append-le, drop-drop, drop-set-lt, drop-take, drop_all}
pub use lemmas.List.{drop_at, drop_more, ext_get_or, get_or-map, get_or-set_other, get_or-set_same, get_or_append_left}
pub use lemmas.List.{get_or_default, get_or_past, get_or_push, length-map, length-set, length-take-le, map-append}
pub use lemmas.List.{nil_from_length, set-append_right, set-get_or, take-append-le, take-map, take-set, take-take}
pub use lemmas.List.{take_all, take_at, take_more_set, take_rest, length-take}
pub use lemmas.List.Concat.{flat_map-append}
pub use lemmas.List.Elements.{All-from_get_or, filter-append}
pub use lemmas.List.Folds.{drop_split, list_any_at}
pub use lemmas.List.FromFn.{get_or-enumerate_from, get_or-range_with_len, length-enumerate_from}
pub use lemmas.List.FromFn.{length-map-range_with_len, length-range_with_len}
pub use lemmas.List.Splits.{length-slice_split}
pub use lemmas.List.Sums.{count_by-le-length, count_by_more_no, count_by_more_yes, sum_by-append, sum_by-cons}
pub use lemmas.List.Sums.{sum_by-take-le}
pub use lemmas.Nat.{and_mask, mod-mul-add, pow_pos, le_or_l, le_or_r, one_shl}
pub use lemmas.Simd.{Each1-from_get_or, SwzOk, SwzOk-from_below, bit_mask_l, chunk-drop, get_or-chunk, length-chunk}
pub use lemmas.Simd.{length-put_chunk, length-swz_l, length-zip2, map-map, mask_l-lt, mask_l-mod, ones-mask_l}
pub use lemmas.Simd.{pick_l-range_with_len, splat_is_map, swz_l, take_more_put_chunk, tops_compared, zip2_of_maps}
pub use lemmas.Simd.{zip2_splat}
pub use lemmas.Slice.Eq.{bytes_eq-Decides}
pub use Rattle.std.specs.Int.{bit_at, cast_signed, cast_unsigned, from_bool, w64, trailing_ones}
pub use Rattle.std.specs.Int.RustNames.{count_ones}
pub use Rattle.std.specs.List.{AllByRecursion, count_by, enumerate_from, flat_map, join_with_byte, last_or, list_any}
pub use Rattle.std.specs.List.{onto_first, range_with_len}
pub use Rattle.std.specs.Option.{is_some, option_map_or, option_or}
pub use Rattle.std.specs.Prelude.{All, bytes_eq, filter, fold, if◌then◌else◌, nat_eq, nat_le, nat_lt, option_map}
pub use Rattle.std.specs.Prelude.{option_to_list, slice_get, slice_range, sum_by, unwrap_or, MatchBool}
pub use Rattle.std.specs.Simd.Lanes.{Each1, chunk, mask_l, pick_l, put_chunk, sel_l, top, zip2}
pub use Rattle.memchr.specs.Find.{IsFirstByte, NoneBefore, Nowhere, Passes, is_byte}
pub use Rattle.ptlangs.specs.Calls.CutLists.{AreSeparated}
pub use Rattle.ptlangs.specs.CutLists.{is_selected}
pub use Rattle.ptlangs.specs.Jobs.{Cut, Paste, Uniq, cut_job, terminator, paste_job, uniq_job}
pub use Rattle.ptlangs.specs.declared.ranges.Interval.{Interval}
pub use Rattle.ptlangs.specs.TrTables.{byte_map_of}
pub use Rattle.ptlines.proofs.Common.{usual}
pub use Rattle.ptlines.proofs.Received.{received_with}
pub use Rattle.ptlines.proofs.ReadLine.{advance_ok_trans, advance_trans}
pub use Rattle.ptlines.proofs.PartLaws.{the_lines_of_parts}
pub use Rattle.ptlines.proofs.Push.{push_nothing, push_past_failure, push_trans}
pub use Rattle.ptlines.proofs.LineSearch.{line_before_terminator, drop_at_terminator, advance_ok_take}
pub use Rattle.ptlines.proofs.LineSearch.{line_if_not_found, take_with_terminator}
pub use Rattle.ptlines.proofs.MatchMasks.{nowhere_trans, mask_append}
pub use Rattle.ptlines.proofs.Lag.{bounded_lag_after}
pub use Rattle.ptlines.proofs.TextLaws.{complete_lines_cons, complete_lines_none, complete_lines_of_unlines}
pub use Rattle.ptlines.proofs.TextLaws.{lines-unlines, lines_are, lines_cons, lines_of_last, lines_of_unlines, byte_ne}
pub use Rattle.ptlines.proofs.TextLaws.{byte_eq, unlines-append, unlines_push, the_complete_lines, the_lines}
pub use Rattle.ptlines.specs.Calls.ReadLine.{FillPost, FillLine}
pub use Rattle.ptlines.specs.Received.{IsConsistent, IsPrefix, Received, known_lines}
pub use Rattle.ptlines.specs.Calls.Outputs.{Output, PushEffect}
pub use Rattle.ptlines.specs.Calls.Scan.{IsNth, IsAfterNth}
pub use Rattle.ptlines.specs.Calls.Readers.{AdvanceOk, HasReadCause, IsSound, ReaderAdvance, budget}
pub use Rattle.ptlines.specs.Readers.{IsDone, Reader, reader_at}
pub use Rattle.ptlines.specs.Slots.{Slots, total_bytes}
pub use Rattle.ptlines.specs.Calls.Slots.{line, with_denied, with_line}
pub use Rattle.ptlines.specs.Private.Slots.{AddedSlots}
pub use Rattle.ptlines.specs.Laws.Text.{AreLines}
pub use Rattle.ptlines.specs.Calls.Text.{IsLine}
pub use Rattle.ptlines.specs.Text.{complete_lines, lines, max_length, max_line_length, unlines, is_blank}
pub use specs.Cuts.{select_from, cut, cut_decided, cut_fields, cut_line, cut_lines, cut_tool, is_field_delimiter}
pub use specs.Laws.Parts.{BeginsWith, CutOfParts, EndsWith, PasteOfParts}
pub use specs.Calls.Passes.{PassPost, no_store}
pub use Rattle.ptlines.specs.Calls.Engines.{CallOutcome, CallState, call_state}
pub use Rattle.ptlines.specs.Engines.{is_in}
pub use Rattle.ptlines.proofs.Calls.{CallProgress, DecidedIfReadFailed, reads_nothing, call_ends, call_on_failed_output}
pub use Rattle.ptlines.proofs.Calls.{call_set, call_without_slots}
pub use Rattle.ptlines.proofs.CopyFacts.{copied_prefix}
pub use Rattle.ptlines.proofs.MatchWindows.{nth_later, nth_from, few_from, after_set, count_in_prefix, first_is, near}
pub use Rattle.ptlines.proofs.MatchWindows.{clear_first, without, count_chunk, cleared, and_less}
pub use Rattle.ptlines.specs.declared.sizes.TheConstants.{PADDED}
pub use specs.Private.PasteCall.{update_at}
pub use specs.PasteText.{delimiter, join_with_cycle, paste_serial_decided, paste_serial_tool, rows_text}
pub use specs.ToolSpec.{ToolSpec}
pub use specs.TrOutput.{squeeze, squeeze_after, is_not_repeat, tr, tr_decided, tr_tool}
pub use specs.Uniqs.{after_fields, ends_word, is_same, word_ends}
pub use specs.Private.Vectors.ByteSets.{FilterPre, IsSetOf, keep_flags, kept_bytes, mask_of, set_has, table_has}
pub use specs.Private.Vectors.Shift.{IsMappedTo, range_delta, shift_by_ranges, stretch_delta}
pub use specs.Private.Cut.CutFrom.{CutPost, IsTerminatorMask, IsCutPart, IsSameLine, CopyLinesPost, selected_bytes}
pub use specs.Private.Cut.CutFrom.{cut_list_from}
pub use specs.Private.Cut.FieldSlices.{IsFieldCursor, IsNextSlice, output_from_cursor, IsLineWindow}
pub use specs.Private.Passes.LineLoop.{IsLineFilter}
pub use specs.Private.Paste.Replaced.{IsDelimiterCycle, IsReplacedTo, cycle_byte, with_replacements}
pub use specs.Private.Paste.FillRow.{SetTerminatorsPost, FillCellPost, SlotsBound, SlotsKept, RowFilledTo, RowFailed}
pub use specs.Private.Paste.FillRow.{RowFilled, ClearSlotsPost, is_write_fault}
pub use specs.Private.Paste.RowCells.{RowShape, BegunText, CellsFilled, CellsTaken, after_cell, begun_in, cells_text}
pub use specs.Private.Paste.RowCells.{job_shape, shape_of, slots_text}
pub use specs.Private.Paste.SerialRest.{row_rest}
pub use specs.Private.Paste.TakenLines.{AreReceivedLines, LinesTaken}
pub use specs.Private.Paste.BufferedRows.{BufferedRowsPre, IsConsumed, AreConsumed, AreFirstRows, RowsTaken}
pub use specs.Private.Paste.BufferedRows.{IsFieldCopied, CopyColumnsPost, CopyRowsPost, RowsWritten}
pub use specs.Private.Tr.TrFrom.{squeeze_from, tr_from}
pub use specs.Private.Uniq.BlockRuns.{RunsWritten, bytes_in_range, EndRunPre, first_of, repeated, IsRangeOf, RunsFailed}
pub use specs.Private.Uniq.BlockRuns.{IsPending}
pub use specs.Private.Uniq.FirstLine.{first_line, current_run_of}
pub use specs.Private.Uniq.RunsFrom.{run_of, count_prefix, run_text, count_of, has_output, current_run, run_output}
pub use specs.Private.Uniq.RunsFrom.{runs_after, runs_from}
pub use specs.declared.faults.FlowFault.{FlowFault}
pub use specs.declared.faults.FlowFault.TheVariants.{Memory, Read, Write}
pub use specs.Private.Cut.ShortLines.{selected_indices, selected_after, IsPieceShuffle, piece_at}
pub use specs.Private.Vectors.Compress.{IsCompressTable, IsCompressRow, select_by, true_indices, removed_mask}
