-- If the first and the last `N` bytes are equal, both slices are, since the last ones reach back to the first.
use Rattle.ptflow.proofs
use proofs.Common.{arith, usual}
use proofs.Vectors.Equal.{ended}
use proofs.simd.compare.is_equal_short.Goals as goal

pub returns-then-is_same_chunk : goal.returns-then-is_same_chunk
returns-then-is_same_chunk g c =
    ended _ g.row.N _ g.row.N _ _ c.requires.size.2 (omega arith) (omega arith) (grind usual)
    c.is_same_chunk-then-is_same_chunk.ensures
