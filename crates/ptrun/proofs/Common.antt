-- Names of other crates and of this crate's specs that many of its proofs import from here.
use Rattle.ptrun.specs
use Rattle.std.proofs.lemmas
pub use Rattle.ptflow.specs.Calls.Passes.{PassPost, PassPre, only_input, pass_end}
pub use Rattle.ptflow.specs.Passes.{pass_engine}
pub use Rattle.ptflow.specs.ToolSpec.{ToolSpec}
pub use Rattle.ptflow.specs.declared.faults.FlowFault.{FlowFault}
pub use Rattle.ptflow.specs.declared.faults.FlowFault.TheVariants.{Memory, Read, Write}
pub use Rattle.ptlangs.specs.Jobs.{Paste, paste_job}
pub use Rattle.ptlines.proofs.Common.{usual}
pub use Rattle.ptlines.proofs.Push.{push_nothing, push_trans}
pub use Rattle.ptlines.specs.Calls.Engines.{AllPushed, CallOutcome, CallState, call_state}
pub use Rattle.ptlines.specs.Engines.{is_in}
pub use Rattle.ptlines.specs.Calls.Lag.{BoundedLag, BufferLag}
pub use Rattle.ptlines.specs.Lag.{LaggedInput}
pub use Rattle.ptlines.specs.Calls.Outputs.{IsKnownPrefix, Output, PushEffect}
pub use Rattle.ptlines.specs.Calls.Readers.{HasReadCause, IsSound}
pub use Rattle.ptlines.specs.Readers.{IsDone, Reader, no_reader, reader_at}
pub use Rattle.ptlines.specs.Received.{HasReceived, IsConsistent, IsPrefix, Received, empty_input}
pub use Rattle.ptlines.specs.Sinks.{SinkState}
pub use Rattle.ptlines.specs.Calls.Sinks.{WriteOutOk}
pub use Rattle.ptlines.specs.Slots.{Slots, total_bytes}
pub use Rattle.ptopts.specs.Commands.{file_names, order_from}
pub use Rattle.ptopts.specs.View.{CommandPost, fault_view}
pub use Rattle.ptopts.specs.Commands.{command_view, words_view}
pub use Rattle.ptopts.specs.declared.inputs.Input.{Input}
pub use specs.CommandSpec.{CommandSpec, ended_operands, messages}
pub use specs.Private.Driver.{AreSoundAt, DecidesAll, HasIndexBelow, InputsPre, RunInputsEnd, RunInputsPost}
pub use specs.Files.{AreInputsConsistent, AreReadToEnd, HasReadFailed, HaveReceived, InputBytes, IsTooLong}
pub use specs.Files.{ReceivedInputs, is_reader_unopened, is_unopened}
pub use specs.Private.Lag.{IsPushedUpToBlock}
pub use specs.MessageWrites.{HasSaid, line_of}
pub use specs.Calls.MessageWrites.{SayPost, texts}
pub use specs.Messages.{name_of, unopened_message}
pub use specs.Private.Messages.{unopened_messages}
pub use specs.Calls.Runs.{usage_message, usage_status}
pub use specs.Decided.{up_to_unended}
pub use specs.Operands.{position, positions}
pub use specs.Private.Sequential.{decided_in_order}
pub use specs.Runs.{HasCause, IsRun, outcome, sinks}
pub use specs.Private.Tools.{spec_of_tool, tool_spec}
pub use specs.SpecOfArgs.{command_spec, spec_of_parsed}
pub use specs.declared.tool.Completion.{Completion}
pub use specs.declared.tool.Completion.TheVariants.{AllWritten, Disordered, Unopened}
pub use Rattle.std.proofs.Common.{Bool, Err, List, None, Ok, Option, Result, Some, [], ap, append_assoc, arith, cond}
pub use Rattle.std.proofs.Common.{drop, false, get_or, inl, inr, length, length-append, length-drop, length-set, map}
pub use Rattle.std.proofs.Common.{max, refl, rules, set, subst, suc, sym, take, take-append-drop, true, zero, ℕ}
pub use Rattle.std.proofs.Common.{⊎_elim, ◌++◌, ◌+◌, ◌<◌, ◌==◌, ◌^◌, ◌∙◌, ◌∷◌, ◌≡◌, ◌≢◌, ◌≤◌, ◌⊎◌, ◌||◌}
pub use lemmas.Bool.{cases_Bool, cases_eq, cases_lt, eqb-true, false≢true}
pub use lemmas.Bool.Decides.{eqb_tells}
pub use lemmas.List.{append-nil, get_or-map, get_or_default, length-map, length-take-le, map-append, take_all}
pub use lemmas.List.{take_more}
pub use lemmas.List.Concat.{flat_map-append}
pub use lemmas.List.Elements.{All-map, filter_map-append}
pub use lemmas.List.Folds.{Any-from_list_any, list_any-append}
pub use lemmas.Result.{err_from_is_err_and}
pub use Rattle.std.specs.Borrow.{Bor}
pub use Rattle.std.specs.Io.KnownBytes.{append_known}
pub use Rattle.std.specs.List.{list_any}
pub use Rattle.std.specs.Prelude.{All, encode_utf8, flat_map, option_map, slice_get}
pub use borrow.Author.Rules.{scaled_Fits}
