-- The ends so far ascend, so that all ascend if the others do.
use Rattle.std.proofs.Common.{◌≡◌, drop}
use Rattle.ptrunc.specs.Calls.Given.{are_ascending}
use Rattle.ptrunc.proofs.given.are_ends.Given as goal

abbrev pub invariant-loop-end : goal.invariant-loop-end
invariant-loop-end l = are_ascending l.begin (drop l.end-index l.ends) l.size ≡ are_ascending 0 l.ends l.size
