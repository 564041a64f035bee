-- The loop of `merge`: the merged intervals are separated, and with the current one and the rest they select the
-- same numbers as all.
use Rattle.ptlangs.proofs
use proofs.Common.{drop}
use proofs.ListElements.{Merges}
use proofs.ranges.merge.Given as goal

abbrev pub invariant-loop-next : goal.invariant-loop-next
invariant-loop-next g l = Merges l.sorted l.kept.items l.current (drop l.next-index l.others)
