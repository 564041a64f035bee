-- The row has the indices of the set bits so far.
use Rattle.ptflow.proofs
use proofs.Vectors.Compress.{RowPrefix}
use proofs.simd.compress.compress_row.Given as goal

abbrev pub invariant-loop-index : goal.invariant-loop-index
invariant-loop-index l = RowPrefix l.mask l.index l.count l.row
