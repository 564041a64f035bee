-- The pairs with the group's lines so far were written.
use Rattle.ptmerge.proofs
use proofs.Common.{◌≤◌, [], ◌∷◌, map, join_job, unlines, lines_of_slots, pair_entries}
use proofs.JoinLemmas.Fields.{PartialWrite}
use proofs.JoinLemmas.Group.{pair_of}
use proofs.tools.join.write_pair_entries.Given as goal

abbrev pub invariant-loop-slot : goal.invariant-loop-slot
invariant-loop-slot g l = record {
  amid : PartialWrite l.fn.out l.out
      (unlines l.terminator
      (pair_entries (join_job l.job) l.key (l.one ∷ []) (lines_of_slots l.store l.initial.slot l.slot-end)))
      (unlines l.terminator (map (pair_of (join_job l.job) l.key l.one) (lines_of_slots l.store l.slot l.slot-end)));
  from : l.initial.slot ≤ l.slot;
}
