-- `Sorted::next` when it has read a line that is not the first: the cursor has swapped its slots, and the two keys
-- that it has compared give its status.
use Rattle.ptmerge.proofs
use proofs.Common.{inl, arith, refl}
use proofs.MergeLemmas.{line_moves}
use proofs.merging.cursor.Sorted.next.Goals as goal

pub returns-clause-moves : goal.returns-clause-moves
returns-clause-moves g c =
    let swap = c.swap.ensures in
    let clean = (c.requires.own_reader c.fill.ensures.was_sound).clean in
    inl (line_moves c.requires.distinct_slots (omega arith) swap.x_after swap.y_after refl
    (rw c.in-Ok-true.field-0-test at (c.in-Ok-true.ensures.fills clean)) c.fill.ensures.is_sound c.line-2.ensures
    c.key-last.ensures c.line-3.ensures c.key-head.ensures c.cmp-ordering.ensures
    (rw c.is_gt.ensures at c.status_at-self.ensures) c.is_eq-self.ensures)
