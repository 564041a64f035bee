-- The columns before `column` are filled, no matter how the first ones had been filled; the readers can be read, and
-- each column has a slot. Buffered output may have been written out, but none was pushed.
use Rattle.ptflow.proofs
use proofs.Common.{◌≡◌, ◌≤◌, ◌-◌, List, false, [], length, PushEffect, Reader, Slots, BufferedRowsPre, RowFilledTo}
use proofs.Common.{begun_in, shape_of}
use proofs.tools.paste.fill_row.Given as goal

abbrev pub invariant-cells : goal.invariant-cells
invariant-cells g l = record {
  filled_to : (from : List Reader) (first : Slots)
      → RowFilledTo (shape_of l.row) l.fn.begun.count from first (begun_in l.fn.readers l.fn.begun l.fn.into) l.fn.store
      → RowFilledTo (shape_of l.row) l.column from first (begun_in l.readers l.begun l.into) l.store;
  readable : BufferedRowsPre (shape_of l.row) l.readers;
  slots : length l.row.cells.now ≤ length l.store.lines;
  within : (l.begun.count ≤ l.column) × (l.column ≤ length l.row.cells.now);
  wrote : PushEffect l.fn.out l.out [];
  clean : l.out.write_failed ≡ false;
}

abbrev pub decreases-cells : goal.decreases-cells
decreases-cells g l = length l.row.cells.now - l.column
