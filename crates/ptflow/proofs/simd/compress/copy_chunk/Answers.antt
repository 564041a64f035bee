-- The 64 bytes are stored after the first `count`.
use Rattle.ptflow.proofs
use proofs.Common.{arith, take_more_put_chunk, length-chunk}
use proofs.simd.compress.copy_chunk.Goals as goal

pub returns-clause-copied : goal.returns-clause-copied
returns-clause-copied c =
    take_more_put_chunk _ _ _ _
    (omega (arith, length-chunk _ 64 _ c.requires.lanes)) (omega arith)
