-- Answers for `merge`: the next interval extends the current one if they overlap or are adjacent; otherwise there is
-- a gap between them. So the merged intervals are separated, and select the same numbers.
use Rattle.ptlangs.proofs
use proofs.Common.{usual, drop_all, drop_more, refl, rules}
use proofs.ListElements.{absorbs, starts_next}
use proofs.ranges.merge.Goals.{else-next-current+in_ok-push, then-next-current}
use proofs.ranges.merge.Goals as goal

pub loop-next-preserved : goal.loop-next-preserved
loop-next-preserved g c =
    let before =
    rw (drop_more c.in-Some.others.now c.loop-next.next-index (record { first = 0; last = 0 }) c.loop-next-test.true)
    at c.loop-next.invariant in
    elim c.if-next-current.branch [
      | then-next-current w ↦ rw (w.kept-is, w.current-is)
          (absorbs _ _ _ _ _ refl w.max.ensures w.if-next-current.true before)
      | else-next-current+in_ok-push w ↦ rw (w.kept-is, w.current-is, w.in_ok-push.ensures.items)
          (starts_next _ _ _ w.if-next-current.false before)
    ]

pub returns-clause-same : goal.returns-clause-same
returns-clause-same g c = search (rules, drop_all)

pub overflow_sub-next : goal.overflow_sub-next
overflow_sub-next g c = grind usual

pub returns-clause-separated : goal.returns-clause-separated
returns-clause-separated g c = grind usual

pub returns-in_default-clause-same : goal.returns-in_default-clause-same
returns-in_default-clause-same g c = grind usual
