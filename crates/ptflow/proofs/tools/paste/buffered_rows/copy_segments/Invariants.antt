-- The columns so far were copied, and the segments in `rest` have those after them. In the loop `begun` is a tuple: the
-- number of copied columns, the end of their copy, and whether one has a line.
use Rattle.ptflow.proofs
use proofs.Common.{◌≡◌, ◌≤◌, length, take, CopyColumnsPost, begun_in, shape_of}
use Rattle.ptflow.specs.Private.Paste.Segments.{AreSegments}
use proofs.tools.paste.buffered_rows.copy_segments.Given as goal
use Rattle.ptlines.specs.declared.sizes.TheConstants.{PADDED}

abbrev pub invariant-segments : goal.invariant-segments
invariant-segments g l = let (count, (end, (any_line, _))) = l.begun in record {
  copied : CopyColumnsPost (shape_of l.row) (begun_in l.fn.readers l.fn.begun l.fn.into)
      (record { readers = l.readers; count = count; any_line = any_line; text = take end l.into });
  are : AreSegments (shape_of l.row) l.fn.readers count l.rest;
  within : count ≤ length l.row.cells.now;
  grows : l.fn.begun.end ≤ end;
  size_bound : end ≤ PADDED;
  buffer_size : length l.into ≡ PADDED;
}

abbrev pub decreases-segments : goal.decreases-segments
decreases-segments g l = length l.rest
