-- Answers for `Ranges::read`: the fault that is returned is that of the list. The intervals are sorted when they are
-- merged; the merged ones are separated, and select the set of the list.
use Rattle.ptlangs.proofs
use proofs.Common.{Interval, IsValidInterval, elements, rules}
use proofs.ListElements.{each_proper, fault_of_intervals, in_order, selection_is_kept}
use Rattle.std.proofs.lemmas.List.Sorted.{All-permutation, IsNonDecreasingBy-from_sort_by_key}
use proofs.ranges.Ranges.read.Goals as goal

pub returns-in-Some : goal.returns-in-Some
returns-in-Some g c = search (rules, fault_of_intervals)

pub merge-requires : goal.merge-requires
merge-requires g c =
    rw c.as_slice.ensures.value (in_order _
    (All-permutation IsValidInterval _ _ c.sort_unstable_by_key.ensures.permutation
    (each_proper (elements c.args.text.now) _ c.in_ok-listed.ensures))
    (IsNonDecreasingBy-from_sort_by_key (λ (r : Interval). r.first) _ c.sort_unstable_by_key.ensures.sorted
    (λ a r q k. search rules)))

pub returns : goal.returns
returns g c =
    selection_is_kept c.args.text.now _ _ _ c.in_ok-listed.ensures c.sort_unstable_by_key.ensures.permutation
    (rw c.as_slice.ensures.value at c.in_ok-kept.ensures.same)

pub invariant_of-result : goal.invariant_of-result
invariant_of-result g c = search rules
