-- `append_slot`: the slots are split at the greater of the two numbers, so source and target lie in different parts.
-- In both orders the target is set (`Target`). So the line is appended or nothing changes, and lines and buffers stay
-- bounded.
use Rattle.ptlines.proofs
use proofs.Common.{◌≡◌, ◌<◌, ◌++◌, ◌∙◌, ℕ, List, [], ap, arith, usual, take, drop, set, get_or}
use proofs.Common.{length}
use Rattle.ptlines.specs.Private.Slots.{SlotBuffer, slot_lines}
use proofs.SlotTotals.{set_after_split, set_before_split, lines_appended, lengths_after_set, buffers_after_set}
use borrow.Author.Rules.{scaled_Fits}
use proofs.store.append_slot.Given as given
use proofs.store.append_slot.Goals as goal

record Target (slots after : List SlotBuffer) (from to : ℕ) (had source new : SlotBuffer) : Type 0 where
  is : after ≡ set slots to new
  was : had ≡ get_or slots to had
  from_is : source ≡ get_or slots from source

appended : {slots after : List SlotBuffer} {from to : ℕ} {had source new : SlotBuffer}
    → Target slots after from to had source new → from < length slots → to < length slots
    → new.line ≡ had.line ++ source.line → slot_lines after
    ≡ set (slot_lines slots) to (get_or (slot_lines slots) to [] ++ get_or (slot_lines slots) from [])
appended {slots} {after} {from} {to} {had} {source} {new} t from_in to_in is =
    lines_appended slots after to had new to_in t.is t.was from source from_in
    (is ∙ ap (λ s. had.line ++ s.line) t.from_is)

module _ (slots front back : List SlotBuffer) (from to : ℕ) (d e new : SlotBuffer) where
  in_back : from < to → to < length slots → front ≡ take to slots → back ≡ drop to slots
      → Target slots (front ++ set back 0 new) from to (get_or back 0 d) (get_or front from e) new
  in_back near within front_is back_is = record {
    is = rw (front_is, back_is) (set_after_split slots to new);
    was = grind usual;
    from_is = grind usual;
  }

  in_front : to < from → from < length slots → front ≡ take from slots → back ≡ drop from slots
      → Target slots (set front to new ++ back) from to (get_or front to d) (get_or back 0 e) new
  in_front near within front_is back_is = record {
    is = rw (front_is, back_is) (set_before_split slots to from new near);
    was = grind usual;
    from_is = grind usual;
  }

behind : (g : given.Over) (c : goal.After-slots-then-from-to-1 g) → Target c.args.slots.now
    (c.split_at_mut-front.result.0.now ++ set c.split_at_mut-front.result.1.now 0 c.append.new.self) c.args.from
    c.args.to (get_or c.split_at_mut-front.result.1.now 0 c.index-back-0.result)
    (get_or c.split_at_mut-front.result.0.now c.args.from c.index-front-from.result) c.append.new.self
behind g c = in_back _ _ _ _ _ _ _ _ c.if-from-to.true c.requires.to_in c.split_at_mut-front.ensures.front
    c.split_at_mut-front.ensures.back

before : (g : given.Over) (c : goal.After-slots-else-from-to-2-1 g) → Target c.args.slots.now
    (set c.split_at_mut-front-else-from-to.result.0.now c.args.to c.append-else-from-to.new.self
    ++ c.split_at_mut-front-else-from-to.result.1.now) c.args.from c.args.to
    (get_or c.split_at_mut-front-else-from-to.result.0.now c.args.to c.index-front-to.result)
    (get_or c.split_at_mut-front-else-from-to.result.1.now 0 c.index-back-0-else-from-to.result)
    c.append-else-from-to.new.self
before g c = in_front _ _ _ _ _ _ _ _ (omega arith) c.requires.from_in c.split_at_mut-front-else-from-to.ensures.front
    c.split_at_mut-front-else-from-to.ensures.back

pub returns-then-from-to-clause-ok : goal.returns-then-from-to-clause-ok
returns-then-from-to-clause-ok g c = grind (arith, appended (behind g c) c.requires.from_in c.requires.to_in)

pub returns-then-from-to-clause-short : goal.returns-then-from-to-clause-short
returns-then-from-to-clause-short g c =
    lengths_after_set _ _ _ _ _ c.requires.to_in (behind g c).is (behind g c).was c.append.ensures.short

pub returns-then-from-to-clause-buffers : goal.returns-then-from-to-clause-buffers
returns-then-from-to-clause-buffers g c =
    buffers_after_set _ _ _ _ _ c.requires.to_in (behind g c).is (behind g c).was c.append.ensures.buffer

pub returns-else-from-to-clause-ok : goal.returns-else-from-to-clause-ok
returns-else-from-to-clause-ok g c = grind (arith, appended (before g c) c.requires.from_in c.requires.to_in)

pub returns-else-from-to-clause-short : goal.returns-else-from-to-clause-short
returns-else-from-to-clause-short g c = lengths_after_set _ _ _ _ _ c.requires.to_in (before g c).is
    (before g c).was c.append-else-from-to.ensures.short

pub returns-else-from-to-clause-buffers : goal.returns-else-from-to-clause-buffers
returns-else-from-to-clause-buffers g c = buffers_after_set _ _ _ _ _ c.requires.to_in (before g c).is
    (before g c).was c.append-else-from-to.ensures.buffer

pub returns-else-from-to-clause-err : goal.returns-else-from-to-clause-err
returns-else-from-to-clause-err g c = grind usual

pub returns-then-from-to-clause-err : goal.returns-then-from-to-clause-err
returns-then-from-to-clause-err g c = grind usual

pub offset_bounds-front-from : goal.offset_bounds-front-from
offset_bounds-front-from g c = search scaled_Fits

pub offset_bounds-front-to : goal.offset_bounds-front-to
offset_bounds-front-to g c = search scaled_Fits
