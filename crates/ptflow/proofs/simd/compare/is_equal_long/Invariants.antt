-- Both slices are equal up to the index.
use Rattle.ptflow.proofs
use proofs.Common.{◌≡◌, ◌≤◌, ◌-◌, length, take}
use proofs.simd.compare.is_equal_long.Given as goal

abbrev pub invariant-loop-at : goal.invariant-loop-at
invariant-loop-at l = record {
  same : take l.at l.a ≡ take l.at l.b;
  within : l.at ≤ length l.a;
}

abbrev pub decreases-loop-at : goal.decreases-loop-at
decreases-loop-at l = length l.a - l.at
