-- What was stored, and then what is kept of the rest, is the whole output. It is not longer than what was read.
use Rattle.ptflow.proofs
use proofs.Common.{◌≤◌, ◌+◌, ◌-◌, ◌++◌, length, take, kept_bytes}
use proofs.Vectors.Compress.{FilterInvariant}
use proofs.simd.filter.filter_pairs.Given as goal

abbrev pub invariant-loop-at : goal.invariant-loop-at
invariant-loop-at g l = record {
  kept : FilterInvariant (g.T.ByteTest.has l.by.set) l.pairs.before.now l.pairs.bytes.now l.into l.at l.count
      (take l.fn.count l.fn.into ++ kept_bytes (g.T.ByteTest.has l.by.set) l.pairs.before.now l.pairs.bytes.now);
  few : l.count ≤ l.fn.count + l.at;
}

abbrev pub decreases-loop-at : goal.decreases-loop-at
decreases-loop-at g l = length l.pairs.bytes.now - l.at
