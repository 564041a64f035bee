-- `low` has the flags of the bytes so far, and `high` those of the bytes 128 after them.
use Rattle.ptflow.proofs
use proofs.Common.{drop}
use proofs.Vectors.Lanes.{HasFlags}
use proofs.simd.byte_set.ByteSet.of.Given as goal

abbrev pub invariant-loop-byte : goal.invariant-loop-byte
invariant-loop-byte l = record {
  low : HasFlags l.byte l.low l.flags;
  high : HasFlags l.byte l.high (drop 128 l.flags);
}
