-- The bytes end the columns before `next`, of which only the first one may have a line.
use Rattle.ptflow.proofs
use proofs.Common.{◌<◌, ◌≤◌, ◌-◌, length, take, shape_of}
use Rattle.ptflow.specs.Private.Paste.Segments.{EndsWith}
use proofs.tools.paste.segments.segment_at.Given as goal

abbrev pub invariant-columns : goal.invariant-columns
invariant-columns g l = record {
  within : (l.column < l.next) × (l.next ≤ length l.row.cells.now);
  few : l.len ≤ 16;
  ends : EndsWith (shape_of l.row) l.readers l.column l.next (take l.len l.bytes);
}

abbrev pub decreases-columns : goal.decreases-columns
decreases-columns g l = length l.row.cells.now - l.next
