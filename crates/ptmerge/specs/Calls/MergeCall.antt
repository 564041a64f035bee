-- The precondition and the postcondition of a tool that merges two inputs, such as `comm` and `join`: its state, how a
-- call ends, and the order of the first reads of both inputs.
use Rattle.std.specs.Prelude.{◌≡◌, ◌≤◌, ◌++◌, ℕ, Bool, true, false, List, None, Result, Ok, Err, length}
use Rattle.ptlines.specs.Calls.Engines.{CallEnd, CallPost, CallState, Complete, InputNames, MemoryFault, OutOfOrder}
use Rattle.ptlines.specs.Calls.Engines.{ReadFault, WriteFault, call_state}
use Rattle.ptlines.specs.Calls.Outputs.{Output}
use Rattle.ptlines.specs.Calls.Text.{IsLine}
use Rattle.ptlines.specs.Lag.{LaggedInput}
use Rattle.ptlines.specs.Readers.{Reader}
use Rattle.ptlines.specs.Received.{Received}
use Rattle.ptlines.specs.Slots.{Slots, total_bytes}
use Rattle.ptlines.specs.Text.{lines}
use Rattle.ptmerge.specs.Calls.MergeSpec.{disorder_is_decided}
use Rattle.ptmerge.specs.Calls.Sides.{with_side}
use Rattle.ptmerge.specs.Calls.MergeSpec.{merge_engine}
use Rattle.ptmerge.specs.Calls.MergeSpec.{MergeTool}
use Rattle.ptmerge.specs.Calls.Sides.{both}
use Rattle.ptmerge.specs.declared.faults.MergeFault.{MergeFault}
use Rattle.ptmerge.specs.declared.key_order.Side.{Side}
use Rattle.ptmerge.specs.declared.key_order.Side.TheVariants.{First, Second}
use Rattle.ptmerge.specs.declared.faults.MergeFault.TheVariants as faults
use Rattle.ptlines.specs.declared.sizes.TheConstants.{BLOCK}

-- The readers, the output and the store of a call.
abbrev pub MergeState : Type 0
MergeState = CallState Side

-- The state made of its four parts.
abbrev pub merge_state : Reader → Reader → Output → Slots → MergeState
merge_state first second out store = call_state (both first second) out store

-- The precondition of a call: both files are open and readable, the store has not failed to grow, and its slots are
-- empty.
pub record MergePre (first second : Reader) (store : Slots) : Type 0 where
  pub opened1 : first.refused ≡ false
  pub opened2 : second.refused ≡ false
  pub readable1 : first.fault ≡ None
  pub readable2 : second.fault ≡ None
  pub allowed : store.denied ≡ false
  pub empty : total_bytes store.lines ≡ 0

-- ---- the engine

-- Two sides are the same one.
abbrev pub is_same_side : Side → Side → Bool
is_same_side First First = true
is_same_side First Second = false
is_same_side Second First = false
is_same_side Second Second = true

-- The inputs of a merge.
abbrev pub both_sides : InputNames Side
both_sides = record { is_read = λ side. true; is_same = is_same_side }

-- How a call ended, by its result.
abbrev pub merge_end : Result (Unit {0}) MergeFault → CallEnd Side
merge_end (Ok u) = Complete
merge_end (Err (faults.Read side)) = ReadFault side
merge_end (Err faults.Write) = WriteFault
merge_end (Err faults.Memory) = MemoryFault
merge_end (Err (faults.Disorder side line)) = OutOfOrder side line

-- ---- the order of the first reads

-- An input has given neither a whole line nor its end: there is no terminator among the bytes received.
pub record HasNoLine (end : ℕ) (given : Received) : Type 0 where
  pub unterminated : IsLine end given.bytes
  pub eof : given.eof ≡ false

-- An input has given at most its first line and one block (8,192 bytes) after it.
pub record IsFirstLineAndBlock (end : ℕ) (given : Received) : Type 0 where
  pub first : List ℕ
  pub rest : List ℕ
  pub split : given.bytes ≡ first ++ rest
  pub one_line : length (lines end first) ≤ 1
  pub block : length rest ≤ BLOCK

-- The first line of the first input is read, then that of the second input. Until the second has given a line or its
-- end, no more than a block after the first input's first line is read.
pub record AreFirstReadsInOrder (end : ℕ) (old new : MergeState) (given : Side → Received) : Type 0 where
  pub second_unread : HasNoLine end (given First) → new.reader Second ≡ record (old.reader Second) { terminator = end }
  pub first_waits : HasNoLine end (given Second) → IsFirstLineAndBlock end (given First)

-- ---- the postcondition

-- A call of a tool that merges two inputs.
pub record MergePost (tool : MergeTool) (old new : MergeState) (result : Result (Unit {0}) MergeFault) : Type 0 where
  pub call : CallPost both_sides (merge_engine tool) old new (merge_end result)
  -- reading stops after a disorder: two blocks of the input `side` earlier, the disorder was not yet decided
  pub stops_at_disorder : (side : Side) → old.out.write_failed ≡ false → (before : LaggedInput (call.given side))
      × (disorder_is_decided tool (with_side side before.earlier call.given) ≡ false)
  -- the second input is not read before the first has given a line or its end, and no more than a block after the first
  -- input's first line is read before the second has
  pub first_reads : old.out.write_failed ≡ false → AreFirstReadsInOrder tool.terminator old new call.given
