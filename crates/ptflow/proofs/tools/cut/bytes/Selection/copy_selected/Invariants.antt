-- What the intervals so far select of the piece was copied, and the others are left.
use Rattle.ptflow.proofs
use proofs.Common.{take, drop}
use proofs.CutLemmas.CutBytes.{CopyInvariant}
use proofs.tools.cut.bytes.Selection.copy_selected.Given as goal

abbrev pub invariant-loop-interval : goal.invariant-loop-interval
invariant-loop-interval l =
    CopyInvariant l.self.selected.now l.interval-index l.line.line_offset (take l.count (drop l.line.start l.block))
    (take l.line.at l.fn.into) (take l.at l.into) l.line.at l.at
