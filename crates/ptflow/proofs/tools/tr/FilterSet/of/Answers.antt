-- A byte whose flag is set is counted and becomes the last one; any other byte changes nothing.
use Rattle.ptflow.proofs
use proofs.Common.{arith}
use proofs.TrLemmas.FilterSet.{after_set, after_clear}
use proofs.tools.tr.FilterSet.of.Goals as goal

pub loop-byte-preserved : goal.loop-byte-preserved
loop-byte-preserved c =
    let counted = c.loop-byte.invariant in
    elim c.if-flags-byte.branch [
      | goal.then-flags-byte w ↦ rw (w.count-is, w.last-is) (after_set counted w.if-flags-byte.true (omega arith))
      | goal.else-flags-byte w ↦ rw (w.count-is, w.last-is) (after_clear counted w.if-flags-byte.false)
    ]
