-- The images so far are the bytes shifted by the ranges before the index.
use Rattle.ptflow.proofs
use proofs.Common.{◌≡◌, map, take, shift_by_ranges}
use proofs.simd.shift.ShiftRangesByteMap.map16.Given as goal

abbrev pub invariant-loop-index : goal.invariant-loop-index
invariant-loop-index g l = l.images ≡ map (shift_by_ranges (take l.index l.self.ranges)) l.v
