-- Between groups, the output is that of the processed lines. While a group is read or its pairs are written, the
-- entries of its key so far are written too, and the rest of them come next, for all lines that may follow.
use Rattle.ptmerge.proofs
use proofs.Common.{◌≤◌, join_job, merge_state, both}
use proofs.JoinLemmas.{BetweenGroups, LoopOfJoin, ReadGroup, WritePairs}
use proofs.MergeLemmas.{reads_ahead}
use proofs.tools.join.join_with_order.Given as goal

abbrev pub invariant-steps : goal.invariant-steps
invariant-steps g l = LoopOfJoin (join_job l.job) g.K.KeyOrder.order g.K.KeyOrder.key_of
    (merge_state l.fn.first l.fn.second l.fn.out l.fn.store) BetweenGroups
    (merge_state l.first l.second l.out l.store) l.merge.first l.merge.second l.merge.order l.fn.order

abbrev pub decreases-steps : goal.decreases-steps
decreases-steps g l = reads_ahead (both l.first l.second) l.merge.first l.merge.second

abbrev pub invariant-lines : goal.invariant-lines
invariant-lines g l = record {
  kept : LoopOfJoin (join_job l.job) g.K.KeyOrder.order g.K.KeyOrder.key_of
      (merge_state l.fn.first l.fn.second l.fn.out l.fn.store) (ReadGroup l.group.end)
      (merge_state l.first l.second l.out l.store) l.merge.first l.merge.second l.merge.order l.fn.order;
  fewer : reads_ahead (both l.first l.second) l.merge.first l.merge.second
      ≤ reads_ahead (both l.initial.first l.initial.second) l.initial.merge.first l.initial.merge.second;
}

abbrev pub decreases-lines : goal.decreases-lines
decreases-lines g l = reads_ahead (both l.first l.second) l.merge.first l.merge.second

abbrev pub invariant-pairs : goal.invariant-pairs
invariant-pairs g l = record {
  kept : LoopOfJoin (join_job l.job) g.K.KeyOrder.order g.K.KeyOrder.key_of
      (merge_state l.fn.first l.fn.second l.fn.out l.fn.store) (WritePairs l.group.end)
      (merge_state l.first l.second l.out l.store) l.merge.first l.merge.second l.merge.order l.fn.order;
  fewer : reads_ahead (both l.first l.second) l.merge.first l.merge.second
      ≤ reads_ahead (both l.initial.first l.initial.second) l.initial.merge.first l.initial.merge.second;
}

abbrev pub decreases-pairs : goal.decreases-pairs
decreases-pairs g l = reads_ahead (both l.first l.second) l.merge.first l.merge.second
