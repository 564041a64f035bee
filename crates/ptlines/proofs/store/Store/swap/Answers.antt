-- Exchanging two slots permutes the lines, so the total is the same.
use Rattle.ptlines.proofs
use proofs.Common.{usual}
use proofs.SlotTotals.{counted_after_swap, slot_lines-swap, slot_in_range}
use proofs.store.Store.swap.Goals as goal

pub invariant_of-self : goal.invariant_of-self
invariant_of-self g c =
    record {
      counted = rw c.swap.ensures.items (counted_after_swap _ _ _ (slot_in_range _ _ c.self.view_is c.requires.a_in)
          (slot_in_range _ _ c.self.view_is c.requires.b_in) c.self.invariant.counted);
      room = rw (c.swap.ensures.capacity, c.swap.ensures.len) c.self.invariant.room;
    }

pub returns : goal.returns
returns g c = grind (usual, slot_lines-swap)

pub swap-requires-clause-i_in_bounds : goal.swap-requires-clause-i_in_bounds
swap-requires-clause-i_in_bounds g c = grind usual

pub swap-requires-clause-j_in_bounds : goal.swap-requires-clause-j_in_bounds
swap-requires-clause-j_in_bounds g c = grind usual
