-- Names of other crates and of this crate's definitions that many of its proofs import from here.
use Rattle.ptmerge.specs
use Rattle.std.proofs.lemmas
pub use Rattle.std.proofs.Common.{Bool, Err, IsErrAnd, List, None, Ok, Option, Result, Some, [], ap, append_assoc}
pub use Rattle.std.proofs.Common.{arith, cond, drop, eqb, false, get_or, inl, inr, length, ◌++◌, ◌+◌, length-append}
pub use Rattle.std.proofs.Common.{length-drop, map, max, not, option_copied, refl, rules, set, subst, suc, sym, true}
pub use Rattle.std.proofs.Common.{zero, ℕ, ⊎_elim, ◌&&◌, ◌*◌, ◌-◌, ◌<◌, ◌==◌, ◌^◌, ◌∙◌, ◌∷◌, ◌≡◌, ◌≢◌, ◌≤◌, ◌⊎◌}
pub use lemmas.Bool.Decides.{nat_tests}
pub use lemmas.Cmp.{tied_itself}
pub use lemmas.List.{append-nil, drop_more, length-set, length_push, nil_from_length}
pub use lemmas.List.Concat.{flat_map-append}
pub use Rattle.std.specs.Cmp.Lexicographic.{bytes_decides}
pub use Rattle.std.specs.List.{last_or, range_with_len, slice_split}
pub use Rattle.std.specs.Ordering.{is_eq, is_gt, is_le, is_lt}
pub use Rattle.std.specs.Prelude.{MatchOption, bytes_eq, filter, flat_map, if◌then◌else◌, is_some, nat_lt, option_map}
pub use Rattle.std.specs.Prelude.{position, remove, unwrap_or}
pub use Rattle.std.specs.declared.cmp.Ordering.TheVariants.{Equal, Greater, Less}
pub use Rattle.ptlangs.specs.Jobs.{Comm, Join, comm_job, terminator, join_job}
pub use Rattle.ptlines.proofs.Common.{usual}
pub use Rattle.ptlines.proofs.ReadLine.{advance_ok_trans, line_of_with_line, advance_trans}
pub use Rattle.ptlines.proofs.Push.{push_nothing, push_trans}
pub use Rattle.ptlines.proofs.TextLaws.{unlines-append}
pub use Rattle.ptlines.specs.Received.{IsConsistent, IsPrefix, Received, known_lines}
pub use Rattle.ptlines.specs.Calls.Outputs.{Output, PushPost, PushEffect}
pub use Rattle.ptlines.specs.Readers.{Reader}
pub use Rattle.ptlines.specs.Calls.Readers.{budget}
pub use Rattle.ptlines.specs.Slots.{Slots, total_bytes}
pub use Rattle.ptlines.specs.Calls.Slots.{line, with_new_slot, with_denied, with_line}
pub use Rattle.ptlines.specs.Laws.Text.{AreLines}
pub use Rattle.ptlines.specs.Calls.Text.{IsLine}
pub use Rattle.ptlines.specs.Text.{complete_lines, lines, max_length, unlines, is_blank}
pub use specs.Private.JoinGroup.{ClearGroupPost, CopyToGroupPost, lines_of_slots}
pub use specs.Join.{output_separator, entry, join_fields, other_fields, pair_entries}
pub use specs.Private.JoinFields.{is_separator, entry_with_list, remaining_fields, is_single_spaced, with_prefix}
pub use specs.MergeSpec.{FirstDisorder, Lines, distinct_keys, first_disorder, sorted_prefix, is_up_to, lines_with_key}
pub use specs.MergeSpec.{disordered_line}
pub use specs.Calls.MergeSpec.{MergeTool, entries_by_key, disorder, entries_of_key}
pub use specs.Calls.MergeSpec.{keys, lines_of, merged_entries, sorted_prefixes}
pub use specs.Private.WriteAndAdvance.{IsReadyToContinue, AdvanceOkPost, WriteFaultPost, AdvancePre}
pub use specs.Private.MergeCall.{MergeRunPre}
pub use specs.Calls.MergeCall.{MergePost, MergeState, merge_state, HasNoLine, IsFirstLineAndBlock}
pub use Rattle.ptlines.specs.ByteOrder.{Cmp, byte_cmp}
pub use specs.Orders.{Key, line_cmp}
pub use specs.Calls.Cursor.{NextOkPost, HasSlots, same_key_at, status_at}
pub use specs.Calls.Sides.{both, other, with_side}
pub use specs.Calls.MergeSteps.{HaveEqualKeys, PrecedesInput, HasOnlyLeastKey}
pub use specs.declared.faults.MergeFault.{MergeFault}
pub use specs.declared.faults.MergeFault.TheVariants.{Memory, Write}
pub use specs.declared.merging.cursor.Sorted.{Sorted}
pub use specs.declared.merging.cursor.CursorStatus.{CursorStatus}
pub use specs.declared.merging.cursor.CursorStatus.TheVariants.{Disorder, Ended, Head}
pub use specs.declared.key_order.Side.{Side}
pub use specs.declared.key_order.Side.TheVariants.{First, Second}
