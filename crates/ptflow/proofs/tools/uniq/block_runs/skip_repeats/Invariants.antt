-- After the line come `count` copies of it, and then `rest`.
use Rattle.ptflow.proofs
use proofs.Common.{◌≡◌, ◌≤◌, ◌+◌, ◌++◌, length, take, drop, repeated}
use proofs.tools.uniq.block_runs.skip_repeats.Given as goal

abbrev pub invariant-loop-count : goal.invariant-loop-count
invariant-loop-count l = record {
  copies : drop l.len l.bytes ≡ repeated l.count (take l.len l.bytes) ++ l.rest;
  few : l.count + length l.rest ≤ length l.bytes;
}

abbrev pub decreases-loop-count : goal.decreases-loop-count
decreases-loop-count l = length l.rest
