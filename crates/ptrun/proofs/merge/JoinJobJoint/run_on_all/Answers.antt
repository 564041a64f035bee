-- `join` has two operands, at different positions that have readers, so both readers can be borrowed at once. What
-- the merge has done to them is what its engine does at these positions.
use Rattle.ptrun.proofs
use proofs.Common.{arith, rules}
use proofs.JointRuns.{merge_post, two_apart, two_within}
use proofs.merge.JoinJobJoint.run_on_all.Goals as goal

pub bounds-operands-0 : goal.bounds-operands-0
bounds-operands-0 g c = grind arith

pub bounds-operands-1 : goal.bounds-operands-1
bounds-operands-1 g c = grind arith

pub two_mut-one-requires : goal.two_mut-one-requires
two_mut-one-requires g c = search (two_within, two_apart)

pub returns : goal.returns
returns g c = search (rules, merge_post, c.two_mut-one.ensures.value)
