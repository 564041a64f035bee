-- The contracts of calls by which an input of a merge, or both, goes on after lines that were passed in the blocks of
-- the readers, and never were in a slot of the store; and of the merge of both blocks, or of one after the end of the
-- other input, as a whole (`BlocksPre`, `BlocksPost`).
use Rattle.std.specs.Prelude.{◌≡◌, ◌⊎◌, ℕ, ◌+◌, ◌-◌, ◌<◌, ◌≤◌, false, List, [], length, drop, Result}
use Rattle.std.specs.Prelude.{Ok, Err}
use Rattle.std.specs.List.{slice_range}
use Rattle.ptlines.specs.Calls.Outputs.{Output}
use Rattle.ptlines.specs.Calls.Readers.{IsSound}
use Rattle.ptlines.specs.Calls.Slots.{line, with_denied, with_line}
use Rattle.ptlines.specs.Readers.{Reader}
use Rattle.ptlines.specs.Slots.{Slots}
use Rattle.ptmerge.specs.Calls.MergeCall.{MergeState}
use Rattle.ptmerge.specs.Calls.MergeSpec.{MergeTool}
use Rattle.ptmerge.specs.Calls.MergeSteps.{AreValidCursors, IsReaderOf}
use Rattle.ptmerge.specs.Calls.Sides.{both, other}
use Rattle.ptmerge.specs.Orders.{Key}
use Rattle.ptmerge.specs.Private.BlockLines.{BlockRunPost, HasFailed, HasFailedAlone, IsBlockTool, LineRunPost}
use Rattle.ptmerge.specs.declared.faults.MergeFault.{MergeFault}
use Rattle.ptmerge.specs.declared.faults.MergeFault.TheVariants.{Memory, Write}
use Rattle.ptmerge.specs.declared.key_order.Side.{Side}
use Rattle.ptmerge.specs.declared.key_order.Side.TheVariants.{First, Second}
use Rattle.ptmerge.specs.declared.merging.cursor.CursorStatus.TheVariants.{Ended, Head}
use Rattle.ptmerge.specs.declared.merging.cursor.Sorted.{Sorted}
use Rattle.ptmerge.specs.declared.merging.block_lines.BlockLine.{BlockLine}
use Rattle.ptmerge.specs.declared.merging.block_lines.BlockRun.{BlockRun}
use Rattle.ptmerge.specs.declared.merging.cursor.Reached.{Reached}

-- The current line is now `line`, which is `count` lines after the one before.
pub record IsPassed (count : ℕ) (line : List ℕ) (old new : Sorted) (before after : Slots) : Type 0 where
  pub cursor : new ≡ record old { number = old.number + count; key = new.key }
  pub store : after ≡ with_line before old.current_slot line

-- The input is at a line, and the lines passed and its current line are in the block of its reader.
pub record CanResume (reached : Reached) (cursor : Sorted) (reader : Reader) : Type 0 where
  pub head : cursor.status ≡ Head
  pub own_reader : IsReaderOf cursor reader
  pub within : reached.left + reached.passed ≤ length reader.buffered
  pub line : 0 < reached.passed
      → reached.left + (reached.size + 1) ≤ length reader.buffered

-- The bytes of the block up to the current line and its terminator are consumed.
pub record IsResumed (reached : Reached) (old new : Sorted) (was is : Reader) (before after : Slots) : Type 0 where
  pub reader : is ≡ record was { buffered = drop (length was.buffered - reached.left) was.buffered }
  pub sound : IsSound is
  pub unmoved : reached.passed ≡ 0 → (new ≡ old) × (after ≡ before)
  pub moved : 0 < reached.passed → let used = length was.buffered - reached.left in
      IsPassed reached.passed (slice_range was.buffered (used - 1 - reached.size) (used - 1)) old new before after
  pub own_reader : IsReaderOf new is

-- The line reached could not be stored: the slot is empty, and nothing is consumed.
pub record IsNotResumed (reached : Reached) (old : Sorted) (was is : Reader) (before after : Slots) : Type 0 where
  pub some : 0 < reached.passed
  pub unread : is ≡ was
  pub store : after ≡ with_denied (with_line before old.current_slot [])

-- The postcondition of `resume` for one input.
abbrev pub ResumePost : Reached → Sorted → Sorted → Reader → Reader → Slots → Slots → Result (Unit {0}) MergeFault
    → Type 0
ResumePost reached old new was is before after (Ok u) = IsResumed reached old new was is before after
ResumePost reached old new was is before after (Err fault) =
    (fault ≡ Memory) × IsNotResumed reached old was is before after

-- Both inputs are at the lines reached.
pub record BothResumed (run : BlockRun) (cursor next : Side → Sorted) (was is : Side → Reader) (before after : Slots)
    : Type 0 where
  pub mid : Slots
  pub first : IsResumed run.first (cursor First) (next First) (was First) (is First) before mid
  pub second : IsResumed run.second (cursor Second) (next Second) (was Second) (is Second) mid after

-- The first input is at the line reached, but that of the second one could not be stored.
pub record FirstResumed (run : BlockRun) (cursor : Side → Sorted) (was is : Side → Reader) (before after : Slots)
    : Type 0 where
  pub next : Sorted
  pub mid : Slots
  pub first : IsResumed run.first (cursor First) next (was First) (is First) before mid
  pub second : IsNotResumed run.second (cursor Second) (was Second) (is Second) mid after

-- The first line reached could not be stored, and nothing is done for the second one.
pub record NoneResumed (run : BlockRun) (cursor : Side → Sorted) (was is : Side → Reader) (before after : Slots)
    : Type 0 where
  pub first : IsNotResumed run.first (cursor First) (was First) (is First) before after
  pub second : is Second ≡ was Second

-- The postcondition of `resume_both`.
abbrev pub AreResumed : BlockRun → (Side → Sorted) → (Side → Sorted) → (Side → Reader) → (Side → Reader) → Slots → Slots
    → Result (Unit {0}) MergeFault → Type 0
AreResumed run cursor next was is before after (Ok u) = BothResumed run cursor next was is before after
AreResumed run cursor next was is before after (Err fault) =
    (fault ≡ Memory)
    × (NoneResumed run cursor was is before after ⊎ FirstResumed run cursor was is before after)

-- The precondition of a merge of both blocks, for a tool that merges blocks: the cursors are valid, each reader is that
-- of its input and has the terminator of the tool.
pub record BlocksPre (tool : MergeTool) (key : Side → Key) (one two : Sorted) (now : MergeState) : Type 0 where
  pub tool_is : IsBlockTool tool key
  pub valid_cursors : AreValidCursors key one two now.store
  pub own_reader : (side : Side) → IsReaderOf (both one two side) (now.reader side)
  pub terminator : (side : Side) → (now.reader side).terminator ≡ tool.terminator

-- A write failed, and nothing is consumed or stored.
pub record IsWriteFault (was is : MergeState) (result : Result (Unit {0}) MergeFault) : Type 0 where
  pub fault : result ≡ Err Write
  pub reader : is.reader ≡ was.reader
  pub store : is.store ≡ was.store

-- The lines of both blocks are merged, and both inputs go on from the lines reached, if these could be stored.
pub record HaveMerged (tool : MergeTool) (old : Side → BlockLine) (cursor next : Side → Sorted) (was is : MergeState)
    (result : Result (Unit {0}) MergeFault) : Type 0 where
  pub run : BlockRun
  pub post : BlockRunPost tool old run was.out is.out
  pub resumed : AreResumed run cursor next was.reader is.reader was.store is.store result

-- Both inputs were at a line. The lines of their blocks are merged, or a write failed.
pub record AreBlocksMerged (tool : MergeTool) (cursor next : Side → Sorted) (was is : MergeState)
    (result : Result (Unit {0}) MergeFault) : Type 0 where
  pub head : (side : Side) → (cursor side).status ≡ Head
  pub old : Side → BlockLine
  pub head_is : (side : Side) → (old side).head.now ≡ line was.store (cursor side).current_slot
  pub rest_is : (side : Side) → (old side).rest.now ≡ (was.reader side).buffered
  pub ends : (HasFailed tool old was.out is.out × IsWriteFault was is result)
      ⊎ HaveMerged tool old cursor next was is result

-- The lines of a block are passed, and the input goes on from the line reached, if this could be stored.
pub record HavePassed (tool : MergeTool) (s : Side) (old : BlockLine) (cursor next : Sorted) (was is : Reader)
    (before after : Slots) (sent out : Output) (result : Result (Unit {0}) MergeFault) : Type 0 where
  pub at : Reached
  pub post : LineRunPost tool s old at sent out
  pub resumed : ResumePost at cursor next was is before after result

-- An input was at a line. The lines of its block are passed, or a write failed, and then nothing is consumed or stored.
pub record IsBlockPassed (tool : MergeTool) (s : Side) (cursor next : Sorted) (was is : Reader) (before after : Slots)
    (sent out : Output) (result : Result (Unit {0}) MergeFault) : Type 0 where
  pub head : cursor.status ≡ Head
  pub old : BlockLine
  pub head_is : old.head.now ≡ line before cursor.current_slot
  pub rest_is : old.rest.now ≡ was.buffered
  pub ends : (HasFailedAlone tool s old sent out × (result ≡ Err Write) × (is ≡ was) × (after ≡ before))
      ⊎ HavePassed tool s old cursor next was is before after sent out result

-- One input had ended. The lines of the other one's block are passed.
pub record IsOtherPassed (tool : MergeTool) (cursor next : Side → Sorted) (was is : MergeState)
    (result : Result (Unit {0}) MergeFault) : Type 0 where
  pub s : Side
  pub ended : (cursor (other s)).status ≡ Ended
  pub others : next (other s) ≡ cursor (other s)
  pub reader : is.reader (other s) ≡ was.reader (other s)
  pub passed : IsBlockPassed tool s (cursor s) (next s) (was.reader s) (is.reader s) was.store is.store was.out is.out
      result

-- The lines of both blocks are merged, or those of one are passed, or nothing happened.
abbrev pub BlocksPost : MergeTool → (Side → Sorted) → (Side → Sorted) → MergeState → MergeState
    → Result (Unit {0}) MergeFault → Type 0
BlocksPost tool cursor next was is result =
    ((next ≡ cursor) × (is ≡ was) × (result ≡ Ok tt))
    ⊎ (AreBlocksMerged tool cursor next was is result ⊎ IsOtherPassed tool cursor next was is result)
