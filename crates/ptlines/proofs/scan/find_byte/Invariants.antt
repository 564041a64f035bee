-- The chunks before `from` have no match.
use Rattle.ptlines.proofs
use proofs.Common.{Nowhere, Passes, length, ◌≤◌, ◌<◌, ◌-◌}
use proofs.scan.find_byte.Given as goal

abbrev pub invariant-chunks : goal.invariant-chunks
invariant-chunks g l = record {
  none : Nowhere (Passes (g.M.Needle.test l.needle) l.bytes) 0 l.from;
  within : l.from ≤ length l.bytes;
  some : 64 ≤ length l.bytes → l.from < length l.bytes;
}

abbrev pub decreases-chunks : goal.decreases-chunks
decreases-chunks g l = 128 - l.from
