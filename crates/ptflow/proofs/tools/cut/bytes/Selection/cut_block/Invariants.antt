-- The lines that ended were cut, and no terminator is between the start of the line and this chunk.
use Rattle.ptflow.proofs
use proofs.Common.{◌-◌, ◌≤◌, length, take, drop, IsCutPart, IsSameLine}
use proofs.tools.cut.bytes.Selection.cut_block.Given as goal

abbrev pub invariant-loop-from : goal.invariant-loop-from
invariant-loop-from l = record {
  within : l.from ≤ length l.block;
  same : IsSameLine l.self.terminator l.block l.from l.line.start;
  cut : IsCutPart l.self.terminator l.self.selected.now l.line_offset l.block l.line.line_offset
      (drop l.line.start l.block) (take l.line.at l.into);
  bound : l.line.line_offset ≤ l.line_offset;
  near : l.line.at ≤ l.line.start;
}

abbrev pub decreases-loop-from : goal.decreases-loop-from
decreases-loop-from l = length l.block - l.from
