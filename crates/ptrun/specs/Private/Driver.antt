-- The contracts between a tool and the driver that runs it: the conditions before and after each of the driver's steps,
-- and the specification of a tool over its operands.
use Rattle.std.specs.Prelude.{◌≡◌, ◌⊎◌, ℕ, ◌+◌, ◌<◌, ◌≤◌, Bool, true, false, List, [], All}
use Rattle.std.specs.Prelude.{None, Result, Ok, Err, length, max}
use Rattle.std.specs.List.{list_any}
use Rattle.ptflow.specs.ToolSpec.{ToolSpec}
use Rattle.ptflow.specs.declared.faults.FlowFault.{FlowFault}
use Rattle.ptflow.specs.declared.faults.FlowFault.TheVariants.{Memory, Read, Write}
use Rattle.ptlines.specs.Engines.{is_in}
use Rattle.ptlines.specs.Calls.Engines.{CallEnd, CallPost, CallState, Complete, MemoryFault, OutOfOrder, ReadFault}
use Rattle.ptlines.specs.Calls.Engines.{WriteFault, call_state, inputs_at}
use Rattle.ptlines.specs.Calls.Outputs.{Output, PushEffect}
use Rattle.ptlines.specs.Calls.Readers.{IsSound}
use Rattle.ptlines.specs.Readers.{Reader, reader_at}
use Rattle.ptlines.specs.Received.{IsPrefix, Received}
use Rattle.ptlines.specs.Sinks.{SinkState, flushes_after}
use Rattle.ptlines.specs.Slots.{Slots, total_bytes}
use Rattle.ptmerge.specs.Calls.MergeCall.{merge_end}
use Rattle.ptmerge.specs.declared.faults.MergeFault.{MergeFault}
use Rattle.ptmerge.specs.declared.key_order.Side.{Side}
use Rattle.ptopts.specs.Commands.{words_view}
use Rattle.ptopts.specs.declared.inputs.Inputs.{Inputs}
use Rattle.ptrun.specs.CommandSpec.{CommandSpec, IsUnfinished, ended_operands, may_touch, operand_messages}
use Rattle.ptrun.specs.Files.{AreInputsConsistent, AreReadToEnd, HasReadFailed, HaveReceived, InputBytes}
use Rattle.ptrun.specs.Files.{IsNewOrUnopened, IsTooLong, ReceivedInputs, at, is_reader_unopened}
use Rattle.ptrun.specs.Lag.{HasBoundedLag}
use Rattle.ptrun.specs.MessageWrites.{HasSaid}
use Rattle.ptrun.specs.Messages.{disorder_message, fault_message}
use Rattle.ptrun.specs.Operands.{positions}
use Rattle.ptrun.specs.Private.Engines.{end_at, in_run}
use Rattle.ptrun.specs.Private.Joint.{JointTool, joint_spec}
use Rattle.ptrun.specs.Private.Lag.{IsPushedUpToBlock}
use Rattle.ptrun.specs.Private.Messages.{unopened_messages}
use Rattle.ptrun.specs.Private.Sequential.{sequential_spec}
use Rattle.ptrun.specs.Runs.{HasCause}
use Rattle.ptrun.specs.declared.tool.Completion.{Completion}
use Rattle.ptrun.specs.declared.tool.Completion.TheVariants.{AllWritten, Disordered, Unopened}

-- ---- the specification of a tool over the operands of the code

-- That of a tool that reads one operand after another.
abbrev pub spec_in_turn : {A : Type 0} → List ℕ → ToolSpec → Inputs A → CommandSpec
spec_in_turn word t operands = sequential_spec word t (words_view operands.names.items) (positions operands.order.items)

-- That of a tool that reads its operands together.
abbrev pub spec_together : {A : Type 0} → List ℕ → JointTool → Inputs A → CommandSpec
spec_together word t operands = joint_spec word t (words_view operands.names.items) (positions operands.order.items)

-- ---- before a run

-- The precondition on the inputs: none was read yet, each operand has a reader, each file has a name, and the tool
-- accepts these operands; there are at most 512, if it reads them together.
pub record InputsPre (m : CommandSpec) (inputs : List Reader) : Type 0 where
  pub fresh : All IsNewOrUnopened inputs
  pub in_range : All (λ p. p < length inputs) m.positions
  pub named : length inputs ≡ length m.names + 1
  pub accepts_operands : m.beyond.accepts ≡ true
  pub few : m.beyond.sequential ≡ None → length m.positions ≤ 512

-- The invariants of the readers at these positions hold.
abbrev pub AreSoundAt : List ℕ → List Reader → Type 0
AreSoundAt positions inputs = (q : ℕ) → is_in positions q ≡ true → IsSound (reader_at inputs q)

-- The postcondition of reporting the operands that could not be opened: each was reported, in order, and the invariants
-- of all readers hold.
pub record ReportUnopenedPost (tool : List ℕ) (names : List (List ℕ)) (positions : List ℕ) (inputs : List Reader)
    (messages_old messages_new : SinkState) (any_unopened : Bool) : Type 0 where
  pub is : any_unopened ≡ list_any (is_reader_unopened inputs) positions
  pub has_said : HasSaid messages_old messages_new
      (unopened_messages tool names (is_reader_unopened inputs) positions)
  pub sound : AreSoundAt positions inputs

-- ---- the end of a run

-- The last message of a run after this result. It is empty unless a call failed or a line is out of order.
abbrev pub result_message : List ℕ → List (List ℕ) → Result Completion FlowFault → List ℕ
result_message tool names (Ok AllWritten) = []
result_message tool names (Ok Unopened) = []
result_message tool names (Ok (Disordered position line)) = disorder_message tool names position line
result_message tool names (Err fault) = fault_message tool names fault

-- The exit status after this result.
abbrev pub result_status : Result Completion FlowFault → ℕ
result_status (Ok AllWritten) = 0
result_status _ = 1

-- The input that the result names, if any, is one of `count` inputs.
abbrev pub HasIndexBelow : ℕ → Result Completion FlowFault → Type 0
HasIndexBelow count (Ok (Disordered position line)) = position < count
HasIndexBelow count (Err (Read position)) = position < count
HasIndexBelow count _ = Unit {0}

-- The postcondition of finishing the output: what was buffered is sent, and the sink is flushed once. If a write
-- failed, that is the result, instead of any other, and nothing was flushed.
pub record FinishPost (old new : Output) (run_result final_result : Result Completion FlowFault) : Type 0 where
  pub wrote : PushEffect old (record new { flushes = old.flushes }) []
  pub same_result : new.write_failed ≡ false → final_result ≡ run_result
  pub emptied : new.write_failed ≡ false → new.buffered ≡ []
  pub was_clean : new.write_failed ≡ false → old.write_failed ≡ false
  pub flushed : new.write_failed ≡ false → new.unflushed ≡ false
  pub flushes : new.write_failed ≡ false → new.flushes ≡ flushes_after old.flushes
  pub unfinished : new.write_failed ≡ true → new.flushes ≡ old.flushes
  pub broken : new.write_failed ≡ true → final_result ≡ Err Write

-- The postcondition of the end of a run: the output was finished, and the last message said.
pub record EndRunPost (tool : List ℕ) (names : List (List ℕ)) (was is : Output) (messages_old messages_new : SinkState)
    (run_result : Result Completion FlowFault) (status : ℕ) : Type 0 where
  pub final_result : Result Completion FlowFault
  pub finished : FinishPost was is run_result final_result
  pub has_said : HasSaid messages_old messages_new (result_message tool names final_result)
  pub status_is : status ≡ result_status final_result

-- ---- a call over the operands

-- The readers at all positions, the output and the store.
abbrev pub run_state : List Reader → Output → Slots → CallState ℕ
run_state readers out store = call_state (reader_at readers) out store

-- The result of a tool that reads its operands together, by how the call ended.
abbrev pub result_of_end : CallEnd ℕ → Result Completion FlowFault
result_of_end Complete = Ok AllWritten
result_of_end (OutOfOrder position line) = Ok (Disordered position line)
result_of_end (ReadFault position) = Err (Read position)
result_of_end WriteFault = Err Write
result_of_end MemoryFault = Err Memory

-- ---- processing the inputs

-- The failure of a call over one reader, as that of the input at position `p`.
abbrev pub fault_at : ℕ → FlowFault → FlowFault
fault_at p (Read position) = Read p
fault_at p Write = Write
fault_at p Memory = Memory

-- The result of a merge, with the position of each side.
abbrev pub merge_found : (Side → ℕ) → Result (Unit {0}) MergeFault → Result Completion FlowFault
merge_found position result = result_of_end (end_at position (merge_end result))

-- All operands are done, the whole output was pushed, and no call failed.
pub record IsComplete (m : CommandSpec) (r : ReceivedInputs) (old new : List Reader) (pushed : List ℕ)
    (failed denied : Bool) (operands_done : ℕ) : Type 0 where
  pub all : operands_done ≡ length m.positions
  pub out : (w : InputBytes) → AreInputsConsistent r w → pushed ≡ m.out w
  pub no_write_failed : failed ≡ false
  pub not_denied : denied ≡ false
  pub read : (position : ℕ) → HasReadFailed old new position ⊎ IsTooLong (at r position) → ⊥

-- How processing ended after `n` operands: with the whole output, or with a failure and its cause.
abbrev pub RunInputsEnd : CommandSpec → ReceivedInputs → List Reader → List Reader → List ℕ → Bool → Bool → ℕ
    → Result Completion FlowFault → Type 0
RunInputsEnd m r old new pushed failed denied n (Ok done) =
    IsComplete m r old new pushed failed denied n
    × ((w : InputBytes) → AreInputsConsistent r w
    → (result_message m.tool m.names (Ok done) ≡ m.final_message w) × (result_status (Ok done) ≡ m.status w))
RunInputsEnd m r old new pushed failed denied n (Err fault) = HasCause m r old new failed denied n fault

-- The inputs were processed: as in a run, except that the last message is still to be said and that some output may
-- still be buffered.
pub record RunInputsPost (m : CommandSpec) (old new : List Reader) (was is : Output)
    (messages_old messages_new : SinkState)
    (before store : Slots) (result : Result Completion FlowFault) : Type 0 where
  pub received : ReceivedInputs
  pub came : HaveReceived old new received
  pub pushed : List ℕ
  pub wrote : PushEffect was is pushed
  pub operands_done : ℕ
  pub within : operands_done ≤ length m.positions
  pub message : List ℕ
  pub has_said : HasSaid messages_old messages_new message
  pub names : (w : InputBytes) → AreInputsConsistent received w → message ≡ operand_messages m w operands_done
  pub ends : RunInputsEnd m received old new pushed is.write_failed store.denied operands_done result
  pub position : HasIndexBelow (length old) result
  pub untouched : (position : ℕ) → is_in (may_touch m operands_done) position ≡ false
      → reader_at new position ≡ reader_at old position
  pub ended : AreReadToEnd new (ended_operands m operands_done (result_status result))
  pub left : result ≡ Err Memory → IsUnfinished m received new pushed operands_done
  pub is_prefix : (w : InputBytes) → AreInputsConsistent received w → IsPrefix pushed (m.out w)
  pub names_failed_read : (position : ℕ) → HasReadFailed old new position → is.write_failed ≡ false
      → result ≡ Err (Read position)
  pub decided_is_written : (position : ℕ) → HasReadFailed old new position → is.write_failed ≡ false
      → IsPrefix (m.decided received) pushed
  pub bounded_lag : HasBoundedLag m received operands_done (λ decided. IsPushedUpToBlock decided was is pushed)
  pub peak : (w : InputBytes) → AreInputsConsistent received w → store.peak ≤ max before.peak (m.memory_bound w)
  pub slots : (w : InputBytes) → AreInputsConsistent received w
      → length store.lines ≤ max (length before.lines) (m.beyond.slot_bound w)

-- ---- the kinds of tools

-- Once the end of an input is reached, all its output is decided.
abbrev pub DecidesAll : ToolSpec → Type 0
DecidesAll t = (bytes : List ℕ) → t.decided (record { bytes = bytes; eof = true }) ≡ t.text bytes

-- The precondition of a tool that reads its operands together: it accepts these operands, each of them was opened and
-- none was read yet.
pub record JointPre (t : JointTool) (positions : List ℕ) (inputs : List Reader) (out : Output)
    (store : Slots) : Type 0 where
  pub accepts_operands : t.accepts positions ≡ true
  pub fresh : All IsNewOrUnopened inputs
  pub in_range : All (λ p. p < length inputs) positions
  pub opened : list_any (is_reader_unopened inputs) positions ≡ false
  pub sound : AreSoundAt positions inputs
  pub writable : out.write_failed ≡ false
  pub not_denied : store.denied ≡ false
  pub empty : total_bytes store.lines ≡ 0

-- The postcondition of such a tool: what its engine has done over the inputs at these positions. Other inputs have no
-- part in the decided output.
pub record JointPost (t : JointTool) (positions : List ℕ) (old new : List Reader) (was is : Output)
    (before store : Slots) (result : Result Completion FlowFault) : Type 0 where
  pub end : CallEnd ℕ
  pub result_is : result ≡ result_of_end end
  pub call : CallPost (inputs_at positions) (in_run (t.engine positions)) (run_state old was before)
      (run_state new is store) end
  pub same : (f g : ℕ → Received) → ((q : ℕ) → is_in positions q ≡ true → f q ≡ g q)
      → (t.engine positions).decided f ≡ (t.engine positions).decided g
