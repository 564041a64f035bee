-- The contracts of the functions of the group of `join`, which is the second input's lines of one key. If pairs are
-- written, several lines are copied to the slots 4 and up; a single one stays in the slot into which it was read. The
-- slot `end` is the one after the copied lines, and is 4 if there are none.
use Rattle.std.specs.Prelude.{◌≡◌, ◌⊎◌, ℕ, ◌==◌, if◌then◌else◌, ◌+◌, ◌-◌, ◌≤◌, ◌<◌, true, false, Bool, List, length}
use Rattle.std.specs.Prelude.{take, drop, max, Result, Ok, Err}
use Rattle.ptlines.specs.ByteOrder.{Cmp}
use Rattle.ptlines.specs.Calls.Outputs.{Output}
use Rattle.ptlines.specs.Calls.Slots.{line, with_line, with_new_slot}
use Rattle.ptlines.specs.Readers.{Reader}
use Rattle.ptlines.specs.Slots.{Slots, total_bytes}
use Rattle.ptmerge.specs.Calls.Cursor.{NextErrPost, NextOkPost}
use Rattle.ptmerge.specs.MergeSpec.{Lines}
use Rattle.ptmerge.specs.Orders.{Key}
use Rattle.ptmerge.specs.Private.WriteAndAdvance.{WriteFaultPost}
use Rattle.ptmerge.specs.declared.faults.MergeFault.{MergeFault}
use Rattle.ptmerge.specs.declared.faults.MergeFault.TheVariants.{Memory, Write}
use Rattle.ptmerge.specs.declared.key_order.Side.TheVariants.{Second}
use Rattle.ptmerge.specs.declared.merging.cursor.CursorStatus.{CursorStatus}
use Rattle.ptmerge.specs.declared.merging.cursor.CursorStatus.TheVariants.{Disorder, Ended, Head}
use Rattle.ptmerge.specs.declared.merging.cursor.Sorted.{Sorted}

-- The lines of the slots from `from` to before `end`.
abbrev pub lines_of_slots : Slots → ℕ → ℕ → Lines
lines_of_slots store from end = take (end - from) (drop from store.lines)

-- The first slot of the group. If no line was copied, that is the slot of the previous line of the second input.
abbrev pub group_first_slot : Sorted → ℕ → ℕ
group_first_slot second end = if end == 4 then second.previous_slot else 4

-- The slot after the last slot of the group.
abbrev pub group_end_slot : Sorted → ℕ → ℕ
group_end_slot second end = if end == 4 then second.previous_slot + 1 else end

-- The lines of the group.
abbrev pub group_lines : Sorted → Slots → ℕ → Lines
group_lines second store end = lines_of_slots store (group_first_slot second end) (group_end_slot second end)

-- The input is at a line that is in order.
abbrev pub is_head : CursorStatus → Bool
is_head Head = true
is_head Ended = false
is_head (Disorder n) = false

-- The postcondition of `ensure_slot`: the slot exists, and was added if it was missing.
pub record EnsureSlotPost (before after : Slots) (slot : ℕ) : Type 0 where
  pub grown : (after ≡ before) ⊎ (after ≡ with_new_slot before)
  pub there : slot < length before.lines → after ≡ before
  pub within : slot < length after.lines

-- The postcondition of `copy_to_group`: the line of slot `from` was copied to slot `to`, which was added if it was
-- missing.
pub record CopyToGroupPost (before after : Slots) (from to : ℕ) : Type 0 where
  pub made : Slots
  pub grown : EnsureSlotPost before made to
  pub copied : after ≡ with_line made to (line made from)

-- The postcondition of `copy_to_group` if the store could not grow.
pub record CopyToGroupErrPost (before after : Slots) (slot : ℕ) : Type 0 where
  pub denied : after.denied ≡ true
  pub slots : length before.lines ≤ length after.lines
  pub most : length after.lines ≤ max (length before.lines) (slot + 1)
  pub peak : after.peak ≤ max before.peak (total_bytes before.lines)

-- The postcondition of `Group::clear`: the slots from 4 to before `end` were emptied, and the others are unchanged.
pub record ClearGroupPost (before after : Slots) (end : ℕ) : Type 0 where
  pub slots : length after.lines ≡ length before.lines
  pub others : (i : ℕ) → (i < 4) ⊎ (end ≤ i) → line after i ≡ line before i
  pub emptied : total_bytes (drop 4 after.lines) + total_bytes (lines_of_slots before 4 end)
      ≡ total_bytes (drop 4 before.lines)
  pub less : total_bytes after.lines ≤ total_bytes before.lines
  pub peak : after.peak ≤ max before.peak (total_bytes before.lines)
  pub denied : after.denied ≡ before.denied

-- After the second input has advanced, its previous line stays in its slot: no group is kept, or the line is the only
-- one of its key.
pub record IsInItsSlot (keep : Bool) (new : Sorted) (made after : Slots) (end next : ℕ) : Type 0 where
  pub stays : (keep ≡ false) ⊎ ((new.same ≡ false) × (end ≡ 4))
  pub end_is : next ≡ end
  pub store_is : after ≡ made

-- After the second input has advanced, its previous line was copied to the group, as one of several.
pub record IsCopiedToGroup (keep : Bool) (new : Sorted) (made after : Slots) (end next : ℕ) : Type 0 where
  pub keeps : keep ≡ true
  pub end_is : next ≡ end + 1
  pub copied : CopyToGroupPost made after new.previous_slot end
  pub several : (new.same ≡ true) ⊎ (4 < end)

-- The postcondition of `Group::read_line` if it succeeds: the second input advanced, and its previous line was copied
-- if needed.
pub record ReadGroupLineOkPost (keep : Bool) (key : Key) (cmp : Cmp) (old new : Sorted) (was is : Reader)
    (before after : Slots) (end next : ℕ) : Type 0 where
  pub made : Slots
  pub came : NextOkPost key cmp old new was is before made
  pub kept : IsInItsSlot keep new made after end next ⊎ IsCopiedToGroup keep new made after end next

-- The postcondition of `Group::read_line` if the second input advanced, and its previous line could not be copied.
pub record CopyFaultPost (keep : Bool) (key : Key) (cmp : Cmp) (old new : Sorted) (was is : Reader)
    (before after : Slots) (end : ℕ) (fault : MergeFault) : Type 0 where
  pub keeps : keep ≡ true
  pub made : Slots
  pub came : NextOkPost key cmp old new was is before made
  pub memory : fault ≡ Memory
  pub copy_failed : CopyToGroupErrPost made after end

-- The postcondition of `Group::read_line` if a read failed or the store could not grow.
abbrev pub ReadGroupLineErrPost : Bool → Key → Cmp → Sorted → Sorted → Reader → Reader → Slots → Slots → ℕ → MergeFault
    → Type 0
ReadGroupLineErrPost keep key cmp old new was is before after end fault =
    CopyFaultPost keep key cmp old new was is before after end fault ⊎ NextErrPost Second old was is before after fault

-- The postcondition of `Group::read_line`. A failed write means that nothing was read.
abbrev pub ReadGroupLinePost : Bool → Key → Cmp → Sorted → Sorted → Reader → Reader → Slots → Slots → Output → ℕ → ℕ
    → Result Bool MergeFault → Type 0
ReadGroupLinePost keep key cmp old new was is before after out end next (Ok has_more) =
    (has_more ≡ new.same) × ReadGroupLineOkPost keep key cmp old new was is before after end next
ReadGroupLinePost keep key cmp old new was is before after out end next (Err fault) =
    ((fault ≡ Write) × WriteFaultPost was is before after out)
    ⊎ ((out.write_failed ≡ false) × ReadGroupLineErrPost keep key cmp old new was is before after end fault)

-- The slots of the group exist, and its lines have the key `k`.
pub record IsGroup (key : Key) (second : Sorted) (store : Slots) (end : ℕ) (k : List ℕ) : Type 0 where
  pub within : (4 ≤ end) × (end ≤ length store.lines)
  pub keyed : (slot : ℕ) → group_first_slot second end ≤ slot → slot < group_end_slot second end
      → key (line store slot) ≡ k
