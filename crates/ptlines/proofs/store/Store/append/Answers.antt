-- `append`: the line and the total grow by the appended bytes, unless memory could not be allocated. The total fits
-- 128 bits, and the invariant of the store holds in both cases.
use Rattle.ptlines.proofs
use proofs.Common.{length, ◌++◌, ◌∙◌, ap, arith, length-append, usual}
use proofs.SlotTotals.{counted_after_set, total_fits, slot_in_range, line_before, store_after_set}
use proofs.store.Store.append.Goals as goal

pub overflow_add-self : goal.overflow_add-self
overflow_add-self g c =
    let counted = c.self.invariant.counted in
    omega (arith, total_fits c.self.inside.slots.items (length c.args.bytes.now) counted (omega arith) (omega arith))

pub invariant_of-self : goal.invariant_of-self
invariant_of-self g c =
    record {
      counted = counted_after_set _ _ _ (slot_in_range _ _ c.self.view_is c.requires) c.index_mut.ensures.value
          c.self.invariant.counted _ c.append.ensures.short c.append.ensures.buffer (grind (arith, length-append))
          (omega arith) (omega arith);
      room = c.self.invariant.room;
    }

pub invariant_of-self-in-Err : goal.invariant_of-self-in-Err
invariant_of-self-in-Err g c = grind usual

pub index_mut-requires : goal.index_mut-requires
index_mut-requires g c = grind usual

pub returns-in-Ok-clause-ok : goal.returns-in-Ok-clause-ok
returns-in-Ok-clause-ok g c =
    let had = line_before _ _ c.self.view_is (slot_in_range _ _ c.self.view_is c.requires) c.index_mut.ensures.value in
    store_after_set _ _ c.self.view_is _ (c.in-Ok.ensures.ok ∙ ap (λ l. l ++ c.args.bytes.now) had)
    (invariant_of-self g c).counted.total c.max-self-inside.ensures

pub returns-in-Err-clause-err : goal.returns-in-Err-clause-err
returns-in-Err-clause-err g c = grind usual
