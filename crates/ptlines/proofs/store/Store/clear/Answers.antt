-- `clear`: the line of the slot is part of the total, so the subtraction does not underflow. The model is the one
-- with an empty line, and the invariant of the store holds.
use Rattle.ptlines.proofs
use proofs.Common.{length, ap, arith, usual}
use proofs.SlotTotals.{line_le_total, counted_after_set, store_after_set, slot_in_range, same_slot, line_of}
use proofs.store.Store.clear.Goals as goal

pub overflow_sub-self : goal.overflow_sub-self
overflow_sub-self g c =
    let low = slot_in_range _ _ c.self.view_is c.requires in
    omega (arith, line_le_total _ _ _ low c.index.ensures c.self.invariant.counted)

pub invariant_of-self : goal.invariant_of-self
invariant_of-self g c =
    let low = slot_in_range _ _ c.self.view_is c.requires in
    let there = c.index_mut.ensures.value in
    let few = line_le_total _ _ _ low there c.self.invariant.counted in
    let same = ap (λ t. length (line_of t)) (same_slot _ _ low c.index.ensures there) in
    let none = ap (λ t. length (line_of t)) c.clear.ensures in
    record {
      counted = counted_after_set _ _ _ low there c.self.invariant.counted _ (omega arith) (grind arith)
          (omega arith) (omega arith) (omega arith);
      room = c.self.invariant.room;
    }

pub returns : goal.returns
returns g c =
    store_after_set _ _ c.self.view_is _ (ap line_of c.clear.ensures)
    (invariant_of-self g c).counted.total (omega arith)

pub index-requires : goal.index-requires
index-requires g c = grind usual

pub index_mut-requires : goal.index_mut-requires
index_mut-requires g c = grind usual
