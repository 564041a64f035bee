-- `set_short_line`: the total changes by the difference of the two lengths, without overflow or underflow; the peak
-- becomes the total if that is greater. The invariant of the store holds in both cases (`sound`).
use Rattle.ptlines.proofs
use proofs.Common.{◌≤◌, ◌+◌, ◌-◌, ℕ, length, set, ap, arith, length-take-le, usual}
use Rattle.ptlines.specs.Private.Slots.{IsSoundStore}
use proofs.SlotTotals.{line_le_total, counted_after_set, total_fits, store_after_set, slot_in_range, same_slot, line_of}
use proofs.store.Store.set_short_line.Given as given
use proofs.store.Store.set_short_line.Goals as goal
use Rattle.ptlines.proofs.store.Store.set_short_line.Goals.{After-set_short_line}

pub overflow_sub-self : goal.overflow_sub-self
overflow_sub-self g c =
    let low = slot_in_range _ _ c.self.view_is c.requires.slot in
    omega (arith, line_le_total _ _ _ low c.index.ensures c.self.invariant.counted)

pub overflow_add-self : goal.overflow_add-self
overflow_add-self g c =
    omega (arith, total_fits c.self.inside.slots.items c.args.size c.self.invariant.counted (omega arith) (omega arith))

sound : (g : given.Over) (c : After-set_short_line g) {peak : ℕ}
    → c.self.inside.byte_count - c.size-was.result + c.args.size ≤ peak → c.self.inside.peak ≤ peak
    → IsSoundStore (c.self.inside.byte_count - c.size-was.result + c.args.size) peak
    (set c.self.inside.slots.items c.args.slot c.set_short_line.new.self) c.self.inside.slots.cap
    c.self.inside.slots.len
sound g c less more =
    let low = slot_in_range _ _ c.self.view_is c.requires.slot in
    let there = c.index_mut.ensures.value in
    let was = ap (λ s. length s.line) (same_slot _ _ low c.index.ensures there) in
    let is = ap (λ s. length s.line) c.set_short_line.ensures in
    let new = length-take-le c.args.size c.args.bytes.now (omega arith) in
    record {
      counted = counted_after_set _ _ _ low there c.self.invariant.counted _ (omega (arith, is, new)) (grind arith)
          (omega (arith, is, new, was, line_le_total _ _ _ low there c.self.invariant.counted)) less more;
      room = c.self.invariant.room;
    }

pub invariant_of-self : goal.invariant_of-self
invariant_of-self g c = sound g (goal.at.invariant_of-self g c).After-set_short_line (omega arith) (omega arith)

pub invariant_of-self-else-self : goal.invariant_of-self-else-self
invariant_of-self-else-self g c =
    sound g (goal.at.invariant_of-self-else-self g c).After-set_short_line (omega arith) (omega arith)

pub returns-then-self : goal.returns-then-self
returns-then-self g c =
    store_after_set _ _ c.self.view_is _ (ap line_of c.set_short_line.ensures)
    (invariant_of-self g c).counted.total (omega arith)

pub returns-else-self : goal.returns-else-self
returns-else-self g c =
    store_after_set _ _ c.self.view_is _ (ap line_of c.set_short_line.ensures)
    (invariant_of-self-else-self g c).counted.total (omega arith)

pub index-requires : goal.index-requires
index-requires g c = grind usual

pub index_mut-requires : goal.index_mut-requires
index_mut-requires g c = grind usual
