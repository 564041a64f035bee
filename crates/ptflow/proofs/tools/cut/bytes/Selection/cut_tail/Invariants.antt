-- The lines so far were cut.
use Rattle.ptflow.proofs
use proofs.Common.{◌-◌, ◌≤◌, length, take, CutPost}
use proofs.tools.cut.bytes.Selection.cut_tail.Given as goal

abbrev pub invariant-lines : goal.invariant-lines
invariant-lines l = record {
  on : CutPost l.self.terminator l.self.selected.now l.block l.fn.line (take l.fn.line.at l.fn.into) l.line
      (take l.line.at l.into);
  within : l.line.start ≤ length l.block;
}

abbrev pub decreases-lines : goal.decreases-lines
decreases-lines l = length l.block - l.line.start
