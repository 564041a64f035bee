-- In the rows so far, the entries at the low nibbles were found.
use Rattle.ptflow.proofs
use proofs.Common.{[], ◌%◌, map, slice_index, slice_index_or}
use proofs.Vectors.Lanes.{IsFilledTo}
use proofs.simd.table.look_up_rows.Given as goal

abbrev pub invariant-loop-row : goal.invariant-loop-row
invariant-loop-row g l =
    IsFilledTo g.row.N (λ row. map (λ b. slice_index (slice_index_or l.rows row []) (b % 16)) l.v) l.row l.found
