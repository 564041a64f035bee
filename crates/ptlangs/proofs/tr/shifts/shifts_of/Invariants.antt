-- The loop of `shifts_of`, which goes from the end of the table to its start: the stretches so far are those of the
-- bytes from the index on.
use Rattle.ptlangs.proofs
use proofs.Common.{drop, stretches_from, ◌≡◌, ◌≤◌}
use proofs.tr.shifts.shifts_of.Given as goal

abbrev pub invariant-loop-index : goal.invariant-loop-index
invariant-loop-index l = record {
  within : l.index ≤ 256;
  stretches : l.shifts ≡ stretches_from l.index (drop l.index l.fn.images);
}

abbrev pub decreases-loop-index : goal.decreases-loop-index
decreases-loop-index l = l.index
