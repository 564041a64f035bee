-- Each byte so far that is not in the range is its own image.
use Rattle.ptflow.proofs
use proofs.Common.{◌≡◌, ◌<◌, ℕ, ◌⊎◌, slice_index}
use proofs.simd.table.MovedRange.of.Given as goal

abbrev pub invariant-loop-byte : goal.invariant-loop-byte
invariant-loop-byte l = record {
  bytes : l.last < 256;
  others : (b : ℕ) → b < l.byte → (b < l.first) ⊎ (l.last < b) → b ≡ slice_index l.images b;
}
