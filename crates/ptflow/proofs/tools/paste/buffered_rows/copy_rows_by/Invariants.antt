-- The rows so far were taken from the buffers, and their text is in `into`. Each row takes a line.
use Rattle.ptflow.proofs
use proofs.Common.{◌≡◌, ◌≤◌, length, take, sum_by, budget, AreConsumed, RowsTaken, shape_of}
use proofs.tools.paste.buffered_rows.copy_rows_by.Given as goal
use Rattle.ptlines.specs.declared.sizes.TheConstants.{PADDED}

abbrev pub invariant-rows : goal.invariant-rows
invariant-rows g l = record {
  rows : RowsTaken (shape_of l.row) l.fn.readers l.readers (take l.end l.into);
  consumed : AreConsumed l.fn.readers l.readers;
  size_bound : l.end ≤ PADDED;
  buffer_size : length l.into ≡ PADDED;
}

abbrev pub decreases-rows : goal.decreases-rows
decreases-rows g l = sum_by budget l.readers
