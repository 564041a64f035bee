-- Each iteration maps 32 bytes, by two vectors of 16.
use Rattle.ptflow.proofs
use proofs.Common.{arith}
use proofs.Vectors.Lanes.{mapped_more}
use proofs.simd.shift.map_chunks.Goals as goal

pub loop-at-preserved : goal.loop-at-preserved
loop-at-preserved g c =
    let at = c.loop-at.at in
    let (_, long, mapped) = c.loop-at.invariant in (
      omega arith,
      omega arith,
      mapped_more _ _ _ 16 _ _ _ (omega arith)
          (mapped_more _ at _ 16 _ _ _ (omega arith) mapped c.map_at.ensures.stored)
          c.map_at-in-loop-at.ensures.stored,
    )
