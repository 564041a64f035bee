-- The loop over rows: those so far were taken from the buffers, of which nothing is consumed before the end. Each row
-- has a terminator at least, so less of the block is left.
use Rattle.ptflow.proofs
use proofs.Common.{◌≡◌, ◌≤◌, ◌-◌, length, take, AreConsumed, RowsTaken, shape_of}
use Rattle.ptflow.specs.Private.Paste.BufferedRows.{after_both}
use proofs.tools.paste.buffered_rows.copy_rows_of_two.Given as goal
use Rattle.ptlines.specs.declared.sizes.TheConstants.{BLOCK, PADDED}

abbrev pub invariant-rows : goal.invariant-rows
invariant-rows g l = let after = after_both l.fn.readers l.first l.first_count l.second l.second_count in record {
  rows : RowsTaken (shape_of l.row) l.fn.readers after (take l.end l.into);
  consumed : AreConsumed l.fn.readers after;
  within : (l.first_count ≤ length l.first_bytes) × (l.second_count ≤ length l.second_bytes);
  size_bound : l.end ≤ BLOCK;
  buffer_size : length l.into ≡ PADDED;
}

abbrev pub decreases-rows : goal.decreases-rows
decreases-rows g l = BLOCK - l.end
