-- The loop of `compare_tail`: the bytes before the index are equal, and fewer bytes of the shorter slice are left
-- after each turn.
use Rattle.std.proofs.Common.{◌≡◌, ◌-◌, ◌≤◌, take}
use Rattle.ptlines.proofs.cmp.compare_tail.Given as goal

abbrev pub invariant-loop-at : goal.invariant-loop-at
invariant-loop-at l = record { within : l.at ≤ l.least; same : take l.at l.a ≡ take l.at l.b }

abbrev pub decreases-loop-at : goal.decreases-loop-at
decreases-loop-at l = l.least - l.at
