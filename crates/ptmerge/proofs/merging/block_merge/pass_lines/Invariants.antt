-- The loop of `pass_lines`: the lines before the current one are passed and written.
use Rattle.ptmerge.proofs
use proofs.Common.{length}
use Rattle.ptmerge.specs.Private.BlockLines.{ArePassedAlone, in_order}
use proofs.merging.block_merge.pass_lines.Given as goal

abbrev pub invariant-lines : goal.invariant-lines
invariant-lines g l =
    ArePassedAlone (in_order (g.T.MergeWriter.tool l.tool) (g.K.KeyOrder.order l.order) (g.K.KeyOrder.key_of l.order))
    l.side l.fn.first l.line l.fn.out l.out

abbrev pub decreases-lines : goal.decreases-lines
decreases-lines g l = length l.line.rest.now
