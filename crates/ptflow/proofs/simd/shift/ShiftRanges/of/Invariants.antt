-- The ranges before the index add to each byte what the first stretches add. A range past the last one adds nothing.
use Rattle.ptflow.proofs
use proofs.Common.{◌≡◌, ◌<◌, ℕ, length, take}
use proofs.Vectors.Lanes.{range_sum, stretch_sum}
use proofs.simd.shift.ShiftRanges.of.Given as goal

abbrev pub invariant-loop-index : goal.invariant-loop-index
invariant-loop-index g l = record {
  long : length l.ranges ≡ g.row.N;
  added : (b : ℕ) → b < 256 → range_sum (take l.index l.ranges) b ≡ stretch_sum (take l.index l.shifts) b;
}
