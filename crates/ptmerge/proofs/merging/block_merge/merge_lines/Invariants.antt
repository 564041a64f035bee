-- For any tool: the lines passed so far come first, regardless of what follows, and what the tool writes for them is
-- written, without a failure. The bytes left in the two blocks decrease.
use Rattle.ptmerge.proofs
use proofs.Common.{both, ◌+◌, length}
use Rattle.ptmerge.specs.Private.BlockLines.{AreMerged, in_order}
use proofs.merging.block_merge.merge_lines.Given as goal

abbrev pub invariant-lines : goal.invariant-lines
invariant-lines g l =
    AreMerged (in_order (g.T.MergeWriter.tool l.tool) (g.K.KeyOrder.order l.order) (g.K.KeyOrder.key_of l.order))
    (both l.fn.first l.fn.second) (both l.one l.two) l.fn.out l.out

abbrev pub decreases-lines : goal.decreases-lines
decreases-lines g l = length l.one.rest.now + length l.two.rest.now
