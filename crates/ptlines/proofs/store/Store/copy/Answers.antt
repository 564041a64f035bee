-- `copy`: the target is emptied and the line of the source appended. If memory ran out, the target stays empty. The
-- total (`copied`) fits 128 bits, and the invariant of the store holds in both cases.
use Rattle.ptlines.proofs
use proofs.Common.{◌≡◌, ◌≢◌, ◌<◌, ◌≤◌, ◌+◌, ℕ, List, [], get_or, length, set, sym, ◌∙◌, ap, subst, arith}
use proofs.Common.{length-map, with_items_is, total_bytes, usual}
use Rattle.std.specs.Vec.{with_items}
use Rattle.std.proofs.lemmas.List.{get_or-map, length-set}
use Rattle.ptlines.specs.Private.Slots.{SlotBuffer, slot_lines, AreBuffersBounded}
use proofs.SlotTotals.{total_fits, copy_lines, total_bytes_set}
use proofs.store.Store.copy.Goals as goal

copied : (lines cleared : List (List ℕ)) (after : List SlotBuffer) (from to byte_count size : ℕ) (v : SlotBuffer)
    → from ≢ to → from < length lines → to < length lines → cleared ≡ set lines to []
    → slot_lines after ≡ set lines to (get_or lines from []) → byte_count ≡ total_bytes cleared
    → v ≡ get_or after from v → size ≡ length v.line
    → byte_count + size ≡ total_bytes (slot_lines after)
copied lines cleared after from to byte_count size v differ from_in to_in cleared_is after_is counts there =
    let within : from < length after = grind (arith, length-map, length-set) in
    let line : v.line ≡ get_or (slot_lines after) from [] = grind (arith, get_or-map) in
    grind (usual, total_bytes_set)

pub overflow_add-self : goal.overflow_add-self
overflow_add-self g c =
    let counted = c.self.invariant.counted in
    omega (arith, total_fits c.self.inside.slots.items c.size.result counted (omega arith) (omega arith))

pub invariant_of-self : goal.invariant_of-self
invariant_of-self g c =
    let s = c.self.inside in
    let cleared = ap (λ t. t.lines) (c.self.view_is ∙ c.clear.ensures) in
    let whole = with_items_is s.slots c.append_slot.new.slots (grind arith) in
    let lines = copy_lines _ _ _ c.args.from c.args.to c.requires.differ c.requires.to_in
    (ap slot_lines c.deref_mut.ensures.value ∙ cleared) c.in-Ok.ensures.ok in
    let total =
    copied _ _ (with_items s.slots c.append_slot.new.slots).items c.args.from c.args.to _ _ _ c.requires.differ
    c.requires.from_in c.requires.to_in cleared (ap slot_lines whole ∙ lines)
    c.self.invariant.counted.total c.index.ensures c.size.ensures.size in
    let peak = c.max-self-inside.result in
    let below : total_bytes (slot_lines c.append_slot.new.slots) ≤ peak = grind arith in
    record {
      counted = record {
        total = total;
        below_peak = omega arith;
        lines = grind arith;
        buffers = subst (AreBuffersBounded peak) (sym whole)
            (c.append_slot.ensures.buffers peak below (grind arith));
      };
      room = c.self.invariant.room;
    }

pub returns-in-Ok-clause-ok : goal.returns-in-Ok-clause-ok
returns-in-Ok-clause-ok g c =
    grind (arith, with_items_is, copy_lines, with_items, (invariant_of-self g c).counted.total, set, get_or)

pub append_slot-requires : goal.append_slot-requires
append_slot-requires g c = grind usual

pub index-requires : goal.index-requires
index-requires g c = grind usual

pub invariant_of-self-in-Err : goal.invariant_of-self-in-Err
invariant_of-self-in-Err g c = grind usual

pub returns-in-Err-clause-err : goal.returns-in-Err-clause-err
returns-in-Err-clause-err g c = grind usual
