-- A row of `paste` that is finished with the store: a line that is not complete in the buffer of its reader is read
-- into the slot of its column. The state in between (`RowFilledTo`), the bytes in the slots (`SlotsBound`), and the
-- contracts of `fill_cell`, `fill_row` and `clear_slots`, with their faults. Also that of `set_terminators`.
use Rattle.std.specs.Prelude.{◌≡◌, ◌≢◌, ℕ, ◌<◌, ◌≤◌, Bool, true, false, List, [], Result, Ok, Err, length, take, drop}
use Rattle.std.specs.Prelude.{max, sum_by, slice_index_or}
use Rattle.ptlines.specs.Readers.{Reader, reader_at}
use Rattle.ptlines.specs.Calls.Readers.{IsSound}
use Rattle.ptlines.specs.Slots.{Slots, total_bytes}
use Rattle.ptlines.specs.Private.Slots.{AddedSlots}
use Rattle.ptlines.specs.Calls.Slots.{line}
use Rattle.ptlines.specs.Calls.ReadLine.{FillPost, FillReadErr, FillMemoryErr}
use Rattle.ptflow.specs.PasteText.{uses_of}
use Rattle.ptflow.specs.Private.Paste.RowCells.{RowShape, BegunText, CellsFilled, begun_in, cells_text}
use Rattle.ptflow.specs.declared.tools.paste.row.BegunRow.{BegunRow}
use Rattle.ptflow.specs.declared.faults.FlowFault.{FlowFault}
use Rattle.ptflow.specs.declared.faults.FlowFault.TheVariants.{Read, Write, Memory}
use Rattle.ptlines.specs.declared.sizes.TheConstants.{BLOCK}

-- The terminator of a reader was set, if it is used by a column (`named` columns use it); else it is unchanged.
pub record SetTerminatorPost (end named : ℕ) (old new : Reader) : Type 0 where
  pub set : 0 < named → new ≡ record old { terminator = end }
  pub left : named ≡ 0 → new ≡ old
  pub sound : 0 < named → IsSound new

-- The postcondition of `set_terminators`: all readers that columns use have the terminator `end`.
abbrev pub SetTerminatorsPost : ℕ → List ℕ → List Reader → List Reader → Type 0
SetTerminatorsPost end cells old new = (input : ℕ) → SetTerminatorPost end (uses_of cells input) (reader_at old input)
    (reader_at new input)

-- The slots of the columns hold everything that the store holds, and a column's slot holds at most `top input` bytes.
pub record SlotsBound (cells : List ℕ) (top : ℕ → ℕ) (before store : Slots) : Type 0 where
  pub denied : store.denied ≡ false
  pub adds : AddedSlots before store (length cells)
  pub short : (c : ℕ) → c < length cells → length (line store c) ≤ top (slice_index_or cells c 0)
  pub others : total_bytes (drop (length cells) store.lines) ≡ 0
  pub peak : store.peak ≤ max before.peak (sum_by top cells)

-- Slots were filled with some of these fields, by column.
pub record SlotsKept (cells : List ℕ) (fields : List (List ℕ)) (before store : Slots) : Type 0 where
  pub same : length store.lines ≡ length before.lines
  pub kept : (first : Slots) (top : ℕ → ℕ) → SlotsBound cells top first before
      → ((c : ℕ) → c < length fields → length (slice_index_or fields c []) ≤ top (slice_index_or cells c 0))
      → SlotsBound cells top first store

-- The first n columns of a row are filled, since the states `from` and `first`: the columns up to `now.count` are
-- copied, and the slots of the others hold their fields.
pub record RowFilledTo (row : RowShape) (n : ℕ) (from : List Reader) (first : Slots) (now : BegunText)
    (store : Slots) : Type 0 where
  pub fields : List (List ℕ)
  pub filled : CellsFilled row n from now.readers fields now.any_line
  pub within : now.count ≤ n
  pub is : now.text ≡ cells_text row 0 (take now.count fields)
  pub held : (c : ℕ) → now.count ≤ c → c < n → line store c ≡ slice_index_or fields c []
  pub slots : SlotsKept row.cells fields first store

-- Filling a row failed at `column`: the columns before it are filled, and `CellFailed` holds between the states of its
-- reader and the store before and after the failed step.
pub record RowFailed (CellFailed : Reader → Reader → Slots → Slots → ℕ → Type 0) (row : RowShape)
    (old new : List Reader) (before store : Slots) : Type 0 where
  pub column : ℕ
  pub within : column < length row.cells
  pub begun : BegunText
  pub buffered : Slots
  pub filled_to : RowFilledTo row column old before begun buffered
  pub failure : CellFailed (reader_at begun.readers (slice_index_or row.cells column 0))
      (reader_at new (slice_index_or row.cells column 0)) buffered store column
  pub others : (input : ℕ) → input ≢ slice_index_or row.cells column 0
      → reader_at new input ≡ reader_at begun.readers input
  pub few : length (reader_at old (slice_index_or row.cells column 0)).buffered ≤ BLOCK
      → length (reader_at new (slice_index_or row.cells column 0)).buffered ≤ BLOCK

-- The reader of the column was not read, and it has not ended.
abbrev pub NotRead : Reader → Reader → Slots → Slots → ℕ → Type 0
NotRead old new before after slot = (new ≡ old) × (after ≡ before) × (old.eof ≡ false)

-- The postcondition of `fill_cell`, for each result.
abbrev pub FillCellPost : ℕ → ℕ → Reader → Reader → Slots → Slots → Result Bool FlowFault → Type 0
FillCellPost input column old new before after (Ok has_line) = FillPost old new before after column
    (Ok has_line) × IsSound new
FillCellPost input column old new before after (Err (Read index)) = FillReadErr old new before after column × IsSound
    new × (index ≡ input)
FillCellPost input column old new before after (Err Write) = NotRead old new before after column
FillCellPost input column old new before after (Err Memory) = FillMemoryErr old new before after column × IsSound new

-- The state after `fill_row` for each result, if the first columns of the row were filled since the states `from` and
-- `first`.
abbrev pub RowFilled : RowShape → List Reader → Slots → List Reader → Slots → List ℕ → Result BegunRow FlowFault
    → Type 0
RowFilled row from first new store into (Ok begun) = RowFilledTo row (length row.cells) from first
    (begun_in new begun into) store
RowFilled row from first new store into (Err (Read input))
    = (b : RowFailed FillReadErr row from new first store) × (input ≡ slice_index_or row.cells b.column 0)
RowFilled row from first new store into (Err Write) = RowFailed NotRead row from new first store
RowFilled row from first new store into (Err Memory) = RowFailed FillMemoryErr row from new first store

-- The postcondition of `fill_row`, regardless of how the first columns of the row had been filled.
abbrev pub FillRowPost : RowShape → BegunText → Slots → List Reader → Slots → List ℕ → Result BegunRow FlowFault
    → Type 0
FillRowPost row begun before new store into result =
    (from : List Reader) (first : Slots) → RowFilledTo row begun.count from first begun before
    → RowFilled row from first new store into result

-- The slots of the first columns are empty, and all others are as before.
pub record ClearSlotsPost (cells : List ℕ) (old new : Slots) : Type 0 where
  pub empty : (c : ℕ) → c < length cells → line new c ≡ []
  pub kept : (first : Slots) (top : ℕ → ℕ) → SlotsBound cells top first old → SlotsBound cells top first new

-- The result is a failed write.
abbrev pub is_write_fault : {X : Type 0} → Result X FlowFault → Bool
is_write_fault (Ok x) = false
is_write_fault (Err (Read input)) = false
is_write_fault (Err Write) = true
is_write_fault (Err Memory) = false
