-- The group's slots below `slot` are empty, and all others are unchanged.
use Rattle.ptmerge.proofs
use proofs.Common.{◌≤◌, ClearGroupPost}
use proofs.tools.join.key_group.Group.clear.Given as goal

abbrev pub invariant-loop-slot : goal.invariant-loop-slot
invariant-loop-slot g l = record { cleared : ClearGroupPost l.fn.store l.store l.slot; from : 4 ≤ l.slot }
