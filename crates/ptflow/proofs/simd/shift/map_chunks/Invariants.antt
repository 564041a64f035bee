-- The bytes before the index were mapped.
use Rattle.ptflow.proofs
use proofs.Common.{length, ◌-◌, IsMappedTo}
use proofs.simd.shift.map_chunks.Given as goal

abbrev pub invariant-loop-at : goal.invariant-loop-at
invariant-loop-at g l = IsMappedTo l.at (g.M.ByteMap.map_byte l.by) l.from l.to

abbrev pub decreases-loop-at : goal.decreases-loop-at
decreases-loop-at g l = length l.from - l.at
