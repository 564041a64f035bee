-- For each line so far a row was copied.
use Rattle.ptflow.proofs
use proofs.Common.{◌≡◌, ◌-◌, ◌≤◌, length, shape_of}
use Rattle.ptflow.specs.Private.Paste.Segments.{AreRowsCopied}
use proofs.tools.paste.buffered_rows.copy_rows_of_one.Given as goal
use Rattle.ptlines.specs.declared.sizes.TheConstants.{PADDED}

abbrev pub invariant-chunks : goal.invariant-chunks
invariant-chunks g l = record {
  within : l.from ≤ l.size;
  copied : AreRowsCopied (shape_of l.row) l.readers l.segment.input l.from l.copied l.into;
  buffer_size : length l.into ≡ PADDED;
}

abbrev pub decreases-chunks : goal.decreases-chunks
decreases-chunks g l = l.size - l.from
