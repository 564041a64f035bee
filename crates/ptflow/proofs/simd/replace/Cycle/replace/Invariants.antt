-- The bytes before the index were copied with their terminators replaced.
use Rattle.ptflow.proofs
use proofs.Common.{◌-◌, length, IsReplacedTo}
use proofs.simd.replace.Cycle.replace.Given as goal

abbrev pub invariant-loop-at : goal.invariant-loop-at
invariant-loop-at l = IsReplacedTo l.self l.fn.index l.index l.at l.from l.to

abbrev pub decreases-loop-at : goal.decreases-loop-at
decreases-loop-at l = length l.from - l.at
