-- The rows so far are the images of 16 bytes each, from the first byte on.
use Rattle.ptflow.proofs
use proofs.Common.{◌*◌, ◌+◌, chunk}
use proofs.Vectors.Lanes.{IsFilledTo}
use proofs.simd.table.MovedRange.map.Given as goal

abbrev pub invariant-loop-row : goal.invariant-loop-row
invariant-loop-row g l = IsFilledTo g.row.N (λ i. chunk (l.first + 16 * i) 16 l.images) l.row l.rows
