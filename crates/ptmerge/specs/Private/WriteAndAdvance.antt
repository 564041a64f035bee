-- Preconditions and postconditions of the functions of a merge that write a line and then advance an input, which means
-- that the next line of that input is read. `one` and `two` are the cursors of the inputs before the call, `one2` and
-- `two2` those after it.
use Rattle.std.specs.Prelude.{◌≡◌, ◌⊎◌, ℕ, List, true, false, Result, Ok, Err}
use Rattle.ptlines.specs.ByteOrder.{Cmp}
use Rattle.ptlines.specs.Calls.Outputs.{Output}
use Rattle.ptlines.specs.Readers.{Reader}
use Rattle.ptlines.specs.Slots.{Slots}
use Rattle.ptmerge.specs.Calls.Cursor.{NextErrPost, NextOkPost}
use Rattle.ptmerge.specs.Calls.MergeSpec.{MergeTool}
use Rattle.ptmerge.specs.Calls.MergeSteps.{AreValidCursors, IsReaderOf}
use Rattle.ptmerge.specs.Calls.Sides.{other}
use Rattle.ptmerge.specs.Orders.{Key}
use Rattle.ptmerge.specs.Calls.Sides.{both}
use Rattle.ptmerge.specs.declared.faults.MergeFault.{MergeFault}
use Rattle.ptmerge.specs.declared.faults.MergeFault.TheVariants.{Write}
use Rattle.ptmerge.specs.declared.key_order.Side.{Side}
use Rattle.ptmerge.specs.declared.merging.cursor.CursorStatus.TheVariants.{Head}
use Rattle.ptmerge.specs.declared.merging.cursor.Sorted.{Sorted}

-- A write failed, and nothing was read after it.
pub record WriteFaultPost (was is : Reader) (before after : Slots) (out : Output) : Type 0 where
  pub write_failed : out.write_failed ≡ true
  pub unread : is ≡ was
  pub store : after ≡ before

-- The postcondition, for one input, of a call that writes and then reads the next line.
abbrev pub WriteThenNextPost : Key → Cmp → Side → Sorted → Sorted → Reader → Reader → Slots → Slots → Output
    → Result (Unit {0}) MergeFault → Type 0
WriteThenNextPost key cmp side old new was is before after out (Ok u) =
    (out.write_failed ≡ false) × NextOkPost key cmp old new was is before after
WriteThenNextPost key cmp side old new was is before after out (Err fault) =
    ((fault ≡ Write) × WriteFaultPost was is before after out)
    ⊎ ((out.write_failed ≡ false) × NextErrPost side old was is before after fault)

-- The precondition of a call that advances the input `side`: it is at a line, and `reader` is its reader.
pub record AdvancePre (key : Side → Key) (side : Side) (one two : Sorted) (reader : Reader)
    (store : Slots) : Type 0 where
  pub valid_cursors : AreValidCursors key one two store
  pub head : (both one two side).status ≡ Head
  pub own_reader : IsReaderOf (both one two side) reader

-- The precondition of a call that writes the output for the current line of the input `side`, and then advances this
-- input: the keys are those of the tool.
pub record WriteThenAdvancePre (tool : MergeTool) (key : Side → Key) (side : Side) (one two : Sorted) (reader : Reader)
    (store : Slots) : Type 0 where
  pub advance : AdvancePre key side one two reader store
  pub keys : (side : Side) (line : List ℕ) → key side line ≡ tool.key side line

-- The state after the input `side` advanced: the other input is unchanged, and both satisfy the preconditions of the
-- next call.
pub record IsReadyToContinue (key : Side → Key) (side : Side) (one two one2 two2 : Sorted) (reader : Reader)
    (store : Slots) (out : Output) : Type 0 where
  pub clean : out.write_failed ≡ false
  pub others : both one2 two2 (other side) ≡ both one two (other side)
  pub valid_cursors : AreValidCursors key one2 two2 store
  pub own_reader : IsReaderOf (both one2 two2 side) reader

-- The postcondition of a call that advances the input `side`, if it succeeds.
pub record AdvanceOkPost (key : Side → Key) (cmp : Cmp) (side : Side) (one two one2 two2 : Sorted) (was is : Reader)
    (before after : Slots) (out : Output) : Type 0 where
  pub came : NextOkPost (key side) cmp (both one two side) (both one2 two2 side) was is before after
  pub continues : IsReadyToContinue key side one two one2 two2 is after out

-- The postcondition of a call that writes and then advances the input `side` of a merge.
abbrev pub WriteThenAdvancePost : (Side → Key) → Cmp → Side → Sorted → Sorted → Sorted → Sorted → Reader → Reader
    → Slots → Slots → Output → Result (Unit {0}) MergeFault → Type 0
WriteThenAdvancePost key cmp side one two one2 two2 was is before after out (Ok u) =
    AdvanceOkPost key cmp side one two one2 two2 was is before after out
WriteThenAdvancePost key cmp side one two one2 two2 was is before after out (Err fault) =
    WriteThenNextPost (key side) cmp side (both one two side) (both one2 two2 side) was is before after out (Err fault)
