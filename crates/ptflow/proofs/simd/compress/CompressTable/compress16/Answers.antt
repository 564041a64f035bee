-- A mask of 16 flags is two of eight; for the second one the vector is rotated by eight lanes.
use Rattle.ptflow.proofs
use proofs.Common.{◌∙◌}
use proofs.Vectors.Compress.{low_half, high_half, front_long, back_long, select_by_halves}
use proofs.simd.compress.CompressTable.compress16.Goals as goal

pub returns-clause-packed : goal.returns-clause-packed
returns-clause-packed c flags long masked =
    let first = c.compress8-half.ensures.packed _ (front_long flags long) (low_half flags long masked) in
    let second = c.compress8.ensures.packed _ (back_long flags long) (high_half flags long masked) in
    second ∙ rw first (select_by_halves flags long _ _ c.fits-v.0)
