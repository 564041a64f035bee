-- The chunk is stored up to the removed byte, and from the next one on by the second copy.
use Rattle.ptflow.proofs
use proofs.Common.{arith}
use proofs.Vectors.Compress.{stored_again}
use proofs.simd.compress.copy_all_but.Goals as goal

pub returns-clause-copied : goal.returns-clause-copied
returns-clause-copied c =
    stored_again _ _ _ _ _ _ _ (omega arith) (omega arith)
    (omega arith) (rw c.copy_chunk.ensures.end at c.copy_chunk.ensures.copied)
    (rw c.copy_chunk-2.ensures.end at c.copy_chunk-2.ensures.copied)
