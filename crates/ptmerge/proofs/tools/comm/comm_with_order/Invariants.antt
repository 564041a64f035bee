-- The output is that of the processed lines, which comes first for all lines that may follow.
use Rattle.ptmerge.proofs
use proofs.Common.{comm_job, merge_state, both}
use proofs.CommLemmas.{LoopOfComm}
use proofs.MergeLemmas.{reads_ahead}
use proofs.tools.comm.comm_with_order.Given as goal

abbrev pub invariant-steps : goal.invariant-steps
invariant-steps g l =
    LoopOfComm (comm_job l.job) g.K.KeyOrder.order g.K.KeyOrder.key_of
    (merge_state l.fn.first l.fn.second l.fn.out l.fn.store) (merge_state l.first l.second l.out l.store)
    l.merge.first l.merge.second l.merge.order l.fn.order

abbrev pub decreases-steps : goal.decreases-steps
decreases-steps g l = reads_ahead (both l.first l.second) l.merge.first l.merge.second
