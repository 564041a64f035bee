-- The contract of a whole run: its output, messages, exit status and memory, by its inputs and the calls that failed.
use Rattle.std.specs.Prelude.{◌≡◌, ℕ, ◌≤◌, Bool, true, false, List, ◌++◌, Option, Some, None, length, max, take}
use Rattle.std.specs.Prelude.{slice_get, ◌⊎◌, if◌then◌else◌}
use Rattle.std.specs.Io.KnownBytes.{append_known}
use Rattle.ptflow.specs.declared.faults.FlowFault.{FlowFault}
use Rattle.ptflow.specs.declared.faults.FlowFault.TheVariants.{Memory, Read, Write}
use Rattle.ptlines.specs.Engines.{is_in}
use Rattle.ptlines.specs.Readers.{Reader, reader_at}
use Rattle.ptlines.specs.Received.{IsPrefix}
use Rattle.ptlines.specs.Sinks.{SinkState, flushes_after}
use Rattle.ptlines.specs.Slots.{Slots}
use Rattle.ptrun.specs.CommandSpec.{CommandSpec, IsUnfinished, ended_operands, may_touch, messages, operand_messages}
use Rattle.ptrun.specs.Files.{AreInputsConsistent, AreReadToEnd, HasBytes, HasReadFailed, HaveReceived, InputBytes}
use Rattle.ptrun.specs.Files.{IsTooLong, ReceivedInputs, at, is_reader_unopened}
use Rattle.ptrun.specs.Lag.{HasBoundedLag, IsWrittenUpToBlock}
use Rattle.ptrun.specs.MessageWrites.{HasSaid}
use Rattle.ptrun.specs.Messages.{fault_message}
use Rattle.ptrun.specs.declared.report.Report.{Report}

-- The sinks that a run is given.
pub record Sinks : Type 0 where
  pub out : SinkState
  pub messages : SinkState

-- The sinks of a run, by their states.
abbrev pub sinks : SinkState → SinkState → Sinks
sinks out messages = record { out = out; messages = messages }

-- The result of a run, apart from its inputs: its sinks, the exit status, the most bytes of lines that were stored, and
-- whether a request of the store for memory failed.
pub record Outcome : Type 0 where
  pub out : SinkState
  pub messages : SinkState
  pub status : ℕ
  pub peak : ℕ
  pub denied : Bool

-- The result of a run, by its `Report`.
abbrev pub outcome : {W E : Type 0} → (W → SinkState) → (E → SinkState) → Report W E → Outcome
outcome out messages r =
    record { out = out r.out; messages = messages r.messages; status = r.status; peak = r.peak; denied = r.denied }

-- ---- how a run ended

-- The reported failure happened. A failed read is that of operand `n`, whose input no earlier operand names; if a write
-- failed or memory ran out, no read is reported.
abbrev pub HasCause : CommandSpec → ReceivedInputs → List Reader → List Reader → Bool → Bool → ℕ → FlowFault → Type 0
HasCause m r old new failed denied n (Read p) =
    (slice_get m.positions n ≡ Some p) × (is_in (take n m.positions) p ≡ false)
    × (HasReadFailed old new p ⊎ IsTooLong (at r p)) × (failed ≡ false) × (denied ≡ false)
HasCause m r old new failed denied n Write = failed ≡ true
HasCause m r old new failed denied n Memory = (denied ≡ true) × (failed ≡ false)

-- How a run ended: no call failed, and it has all output, with the messages and the status of the command; or it
-- stopped after `n` operands, with the messages about these and the one about a failure.
abbrev pub RunEnd : CommandSpec → ReceivedInputs → List Reader → List Reader → List ℕ → List ℕ → Outcome → ℕ
    → Option FlowFault → Type 0
RunEnd m r old new written message o n None =
    (n ≡ length m.positions) × (o.out.failed ≡ false) × (o.denied ≡ false)
    × ((position : ℕ) → HasReadFailed old new position ⊎ IsTooLong (at r position) → ⊥)
    × ((w : InputBytes) → AreInputsConsistent r w
    → (written ≡ m.out w) × (message ≡ messages m w) × (o.status ≡ m.status w))
RunEnd m r old new written message o n (Some fault) =
    (n ≤ length m.positions) × (o.status ≡ 1) × HasCause m r old new o.out.failed o.denied n fault
    × ((w : InputBytes) → AreInputsConsistent r w → message ≡ operand_messages m w n ++ fault_message m.tool m.names fault)

-- ---- a run

-- The effects of a run beyond output, messages, status and memory.
pub record IsRunBeyond (m : CommandSpec) (received : ReceivedInputs) (old new : List Reader) (before : Sinks)
    (o : Outcome) (written : List ℕ) (operands_done : ℕ) (fault : Option FlowFault) : Type 0 where
  -- all output was flushed unless a write failed
  pub flushed : before.out.unflushed ≡ false → o.out.failed ≡ false → o.out.unflushed ≡ false
  -- unless nothing was to be read, the output was flushed exactly once, or never if a write or the flush failed
  pub flushes : m.beyond.reads_nothing (is_reader_unopened old) ≡ false
      → o.out.flushes ≡ (if o.out.failed then before.out.flushes else flushes_after before.out.flushes)
  -- the inputs that were not begun are unchanged
  pub untouched : (position : ℕ) → is_in (may_touch m operands_done) position ≡ false
      → reader_at new position ≡ reader_at old position
  -- operands that are done were read to their end
  pub ended : AreReadToEnd new (ended_operands m operands_done o.status)
  -- if memory ran out, something was left to do
  pub left : fault ≡ Some Memory → IsUnfinished m received new written operands_done
  -- after any failure, all output that was decided two blocks of input earlier is written, except for at most one block
  -- after a failed write
  pub bounded_lag : HasBoundedLag m received operands_done (λ decided. IsWrittenUpToBlock decided written o.out.failed)

-- The properties of a run.
pub record IsRun (m : CommandSpec) (old new : List Reader) (before : Sinks) (o : Outcome) : Type 0 where
  -- what was received from the inputs, the bytes that reached the output, and the messages
  pub received : ReceivedInputs
  pub came : HaveReceived old new received
  pub written : List ℕ
  pub output : o.out.accepted ≡ append_known before.out.accepted written
  pub message : List ℕ
  pub has_said : HasSaid before.messages o.messages message
  -- the number of operands that are done, and the failure after them, if any
  pub operands_done : ℕ
  pub fault : Option FlowFault
  pub ends : RunEnd m received old new written message o operands_done fault
  -- whatever bytes follow in the inputs: the output is a prefix of the command's, and the memory is bounded
  pub is_prefix : (w : InputBytes) → AreInputsConsistent received w → IsPrefix written (m.out w)
  pub bounded : (w : InputBytes) → AreInputsConsistent received w → o.peak ≤ m.memory_bound w
  -- a failed read is reported, and all output that was decided by then is written, unless a write failed
  pub names_failed_read : (position : ℕ) → HasReadFailed old new position → o.out.failed ≡ false
      → fault ≡ Some (Read position)
  pub decided_is_written : (position : ℕ) → HasReadFailed old new position → o.out.failed ≡ false
      → IsPrefix (m.decided received) written
  pub beyond : IsRunBeyond m received old new before o written operands_done fault

-- The postcondition of a run with a lent store: besides, the store has no more slots than the command needs for its
-- inputs, or than it had before.
pub record IsRunInStore (m : CommandSpec) (old new : List Reader) (before : Sinks) (o : Outcome)
    (lent left : Slots) : Type 0 where
  pub run : IsRun m old new before o
  pub slots : (w : InputBytes) → AreInputsConsistent run.received w
      → length left.lines ≤ max (length lent.lines) (m.beyond.slot_bound w)

-- The run did what the command requires over inputs of these bytes.
pub record IsExact (m : CommandSpec) (w : InputBytes) (before : Sinks) (o : Outcome) : Type 0 where
  pub out : o.out.accepted ≡ append_known before.out.accepted (m.out w)
  pub messages : o.messages.failed ≡ false → o.messages.accepted ≡ append_known before.messages.accepted (messages m w)
  pub status_is : o.status ≡ m.status w
  pub bounded : o.peak ≤ m.memory_bound w

-- The main theorem of a run: if the readers have these bytes to give, no read and no write of the output fails, and
-- memory does not run out, then the run did what the command requires.
abbrev pub IsExactUnlessFailed : CommandSpec → List Reader → List Reader → Sinks → Outcome → Type 0
IsExactUnlessFailed m old new before o =
    (w : InputBytes) → HasBytes old w → ((position : ℕ) → HasReadFailed old new position → ⊥)
    → o.out.failed ≡ false → o.denied ≡ false → IsExact m w before o

-- Nothing was written or flushed, and no memory was used.
abbrev pub HasWrittenNothing : SinkState → Outcome → Type 0
HasWrittenNothing out o = (o.out ≡ out) × (o.peak ≡ 0) × (o.denied ≡ false)

-- If the command is to read nothing, the inputs are unchanged, and nothing was written.
abbrev pub IsUnchangedIfUnread : CommandSpec → List Reader → List Reader → SinkState → Outcome → Type 0
IsUnchangedIfUnread m old new out o =
    m.beyond.reads_nothing (is_reader_unopened old) ≡ true → (new ≡ old) × HasWrittenNothing out o

-- If the command is to read nothing, the store is unchanged.
abbrev pub IsStoreUnchangedIfUnread : CommandSpec → List Reader → Slots → Slots → Type 0
IsStoreUnchangedIfUnread m old lent left = m.beyond.reads_nothing (is_reader_unopened old) ≡ true → left ≡ lent
