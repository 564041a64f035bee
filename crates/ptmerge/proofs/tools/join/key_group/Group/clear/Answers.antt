-- Each iteration empties the next slot of the group.
use Rattle.ptmerge.proofs
use Rattle.std.proofs.Common.{arith, rules}
use proofs.JoinLemmas.Group.{clears_more}
use proofs.tools.join.key_group.Group.clear.Goals as goal

pub loop-slot-init : goal.loop-slot-init
loop-slot-init g c = search rules

pub loop-slot-preserved : goal.loop-slot-preserved
loop-slot-preserved g c =
    let i = c.loop-slot.invariant in
    record { cleared = clears_more _ _ _ _ i.from (omega arith) i.cleared c.clear.ensures; from = omega arith }
