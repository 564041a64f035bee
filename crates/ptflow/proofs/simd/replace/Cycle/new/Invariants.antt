-- Each entry before `number` is the byte at its index modulo the length.
use Rattle.ptflow.proofs
use proofs.Common.{◌≡◌, ◌<◌, ◌%◌, ℕ, length, slice_index_or}
use proofs.simd.replace.Cycle.new.Given as goal

abbrev pub invariant-loop-number : goal.invariant-loop-number
invariant-loop-number l = record {
  size : length l.unrolled ≡ 320;
  at : (k : ℕ) → k < l.number → slice_index_or l.unrolled k 0 ≡ slice_index_or l.bytes (k % l.len) 0;
}
