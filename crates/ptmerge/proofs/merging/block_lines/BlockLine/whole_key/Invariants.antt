-- The lines from the first one to the line reached have its key. The bytes after the line reached decrease.
use Rattle.ptmerge.proofs
use proofs.Common.{length}
use Rattle.ptmerge.specs.Private.BlockLines.{IsReachedInKey}
use proofs.merging.block_lines.BlockLine.whole_key.Given as goal

abbrev pub invariant-lines : goal.invariant-lines
invariant-lines g l =
    IsReachedInKey l.terminator (g.K.KeyOrder.order l.order) (g.K.KeyOrder.key_of l.order l.side) l.self l.after

abbrev pub decreases-lines : goal.decreases-lines
decreases-lines g l = length l.after.rest.now
