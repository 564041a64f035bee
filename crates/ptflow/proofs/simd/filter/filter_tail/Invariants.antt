-- As in `filter_pairs`, but byte by byte, from `start` on.
use Rattle.ptflow.proofs
use proofs.Common.{◌≤◌, ◌+◌, ◌++◌, take, drop, kept_bytes}
use proofs.Vectors.Compress.{FilterInvariant}
use proofs.simd.filter.filter_tail.Given as goal

abbrev pub invariant-loop-at : goal.invariant-loop-at
invariant-loop-at g l = record {
  kept : FilterInvariant (g.T.ByteTest.has l.by.set) l.pairs.before.now l.pairs.bytes.now l.into l.at l.count
      (take l.fn.count l.fn.into
      ++ kept_bytes (g.T.ByteTest.has l.by.set) (drop l.start l.pairs.before.now) (drop l.start l.pairs.bytes.now));
  few : l.count + l.start ≤ l.fn.count + l.at;
}
