-- The list has segments of all columns before `column`, whose numbers of columns add up to it.
use Rattle.ptflow.proofs
use proofs.Common.{◌≡◌, ◌≤◌, ◌-◌, length, sum_by, shape_of}
use Rattle.ptflow.specs.Private.Paste.Segments.{AreSegments}
use proofs.tools.paste.segments.segments.Given as goal

abbrev pub invariant-segments : goal.invariant-segments
invariant-segments g l = record {
  within : l.column ≤ length l.row.cells.now;
  total : l.column ≡ sum_by (λ s. s.count) l.segments.items;
  are : AreSegments (shape_of l.row) l.readers 0 l.segments.items;
}

abbrev pub decreases-segments : goal.decreases-segments
decreases-segments g l = length l.row.cells.now - l.column
