-- Names that many proofs of this crate use.
use Rattle.ptlangs.specs
use Rattle.std.proofs.lemmas
pub use specs.Laws.CutLists.{IsValidInterval}
pub use specs.CutLists.{element_interval}
pub use specs.Private.CutLists.{is_dash}
pub use specs.DelimLists.{delim_list}
pub use specs.Numbers.{and_then, cons_ok, elements, max_u64, value}
pub use specs.Laws.Numbers.{is_list_separator}
pub use specs.OutLists.{element_field}
pub use specs.Laws.TrReading.{SetChar, byte_of, chars, chars_after}
pub use specs.Laws.TrChars.{SpellsChars}
pub use specs.TrClasses.{all_bytes}
pub use specs.Private.TrClasses.{range_bytes}
pub use specs.Laws.TrReading.{set_elements}
pub use specs.Private.TrParsing.{HasPaired, PairPost, all_paired, bytes_left, contents_of, first_members, marked_array}
pub use specs.Private.TrParsing.{member_bytes, member_results, most_left, plain_members}
pub use specs.Calls.TrParsing.{ok_map}
pub use specs.TrPlan.{array, complement_of, first_array, image_by, in_string, plan, plan_of}
pub use specs.Laws.TrReading.{is_fill, segments}
pub use specs.Laws.TrReading.{segments_of, sequence, string_segments}
pub use specs.TrElements.{read_string}
pub use specs.Calls.TrShifts.{prepend_shift, shift_at, shift_of, stretches_from}
pub use specs.Calls.TrTables.{tables}
pub use specs.declared.faults.SetFault.{SetFault}
pub use specs.declared.faults.SetFaultKind.{SetFaultKind}
pub use specs.declared.ranges.Interval.{Interval}
pub use specs.declared.tr.bytes.Bytes.{Bytes}
pub use specs.declared.tr.classes.CharClass.{CharClass}
pub use specs.declared.tr.contents.Contents.{Contents}
pub use specs.declared.tr.elements.SetElement.{SetElement}
pub use specs.declared.tr.plan.Form.{Form}
pub use specs.declared.tr.plan.Form.TheVariants.{Delete, DeleteSqueeze, Squeeze}
pub use specs.declared.tr.segments.Member.{Member}
pub use specs.declared.tr.segments.Segment.{Segment}
pub use specs.declared.tr.segments.SetRole.{SetRole}
pub use specs.declared.tr.segments.SetRole.TheVariants.{First}
pub use specs.declared.tr.shifts.Stretch.{Stretch}
pub use Rattle.std.proofs.Common.{Bool, Err, List, None, Ok, Option, Result, Some, [], ap, arith, cond, drop, eqb}
pub use Rattle.std.proofs.Common.{false, get_or, length, map, not, refl, replicate, rules, subst, suc, sym, take, true}
pub use Rattle.std.proofs.Common.{zero, ℕ, ◌%◌, ◌*◌, ◌++◌, ◌+◌, ◌-◌, ◌<◌, ◌||◌, ◌∙◌, ◌∷◌, ◌≡◌, ◌≢◌, ◌≤◌}
pub use lemmas.Bool.{cond_both, eqb-true, ltb-true, ne_eqb}
use lemmas.Grind.{common_steps}
pub use lemmas.Iterator.{YieldsList-from_map, YieldsList-from_slice}
pub use lemmas.Iterator.Adapters.{items_from_extend}
pub use lemmas.Iterator.Consumers.{YieldsList-at, YieldsList-from_filter_map}
pub use lemmas.Iterator.Search.{find_from_yields_List, position_from_yields_List}
pub use lemmas.Iterator.Splits.{YieldsList-from_slice_split}
pub use lemmas.List.{append-nil, drop_all, drop_more, length-drop, map-append, take_all}
pub use Rattle.std.specs.Char.{is_ascii_digit}
pub use Rattle.std.specs.List.{flat_map, slice_get}
pub use Rattle.std.specs.Prelude.{count_by, sum_by}
pub use Rattle.std.specs.Result.{IsErrAnd, is_err, result_err, result_map_both, result_ok}
pub use Rattle.std.specs.Str.Parse.{digits_value, digits_value_after}

-- what most searches take
pub ruleset usual = (arith, common_steps)
