-- `count` vectors are left, and a lane has in its row what was found in its row at the start.
use Rattle.ptflow.proofs
use proofs.Common.{◌≡◌, ◌≤◌, ◌<◌, ℕ, All, length, slice_index}
use Rattle.ptflow.specs.Private.Vectors.Tables.{lane_of}
use proofs.simd.table.select_rows.Given as goal

abbrev pub invariant-loop-count : goal.invariant-loop-count
invariant-loop-count g l = record {
  some : 0 < l.count;
  few : l.count ≤ g.row.N;
  size : length l.left ≡ g.row.N;
  long : All (λ v. length v ≡ 16) l.left;
  lanes : (lane : ℕ) → lane < 16 → slice_index l.fn.rows lane < g.row.N
      → (slice_index l.rows lane < l.count) × (lane_of l.left l.rows lane ≡ lane_of l.fn.found l.fn.rows lane);
}

abbrev pub decreases-loop-count : goal.decreases-loop-count
decreases-loop-count g l = l.count
