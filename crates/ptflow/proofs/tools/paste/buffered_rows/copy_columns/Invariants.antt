-- The text of the columns so far and its bounds. `begun` is a tuple: the number of copied columns, the end of their
-- copy, and whether one has a line. `index` is that of the next delimiter.
use Rattle.ptflow.proofs
use proofs.Common.{◌≡◌, ◌≤◌, ◌%◌, ◌-◌, length, take, CopyColumnsPost, begun_in, shape_of}
use proofs.tools.paste.buffered_rows.copy_columns.Given as goal
use Rattle.ptlines.specs.declared.sizes.TheConstants.{PADDED}

abbrev pub invariant-cells : goal.invariant-cells
invariant-cells g l = let (count, (end, (any_line, _))) = l.begun in record {
  copied : CopyColumnsPost (shape_of l.row) (begun_in l.fn.readers l.fn.begun l.fn.into)
      (record { readers = l.readers; count = count; any_line = any_line; text = take end l.into });
  within : count ≤ length l.row.cells.now;
  grows : l.fn.begun.end ≤ end;
  size_bound : end ≤ PADDED;
  at : l.index ≡ count % length l.row.delims.now;
  buffer_size : length l.into ≡ PADDED;
}

abbrev pub decreases-cells : goal.decreases-cells
decreases-cells g l = length l.row.cells.now - l.begun.0
