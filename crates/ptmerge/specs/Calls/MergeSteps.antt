-- The contracts of `Merge::start` and `Merge::step`, and the conditions of all calls of a merge: valid cursors, and
-- each input's own reader. Also the precondition of the cursor's `next`.
use Rattle.std.specs.Prelude.{◌≡◌, ◌⊎◌, ℕ, ◌+◌, ◌^◌, ◌<◌, ◌≤◌, List, None, true, false, length}
use Rattle.std.specs.Ordering.{is_gt}
use Rattle.ptlines.specs.ByteOrder.{Cmp}
use Rattle.ptlines.specs.Calls.Readers.{IsSound, budget}
use Rattle.ptlines.specs.Calls.Slots.{line}
use Rattle.ptlines.specs.Readers.{Reader}
use Rattle.ptlines.specs.Slots.{Slots}
use Rattle.ptmerge.specs.Calls.Cursor.{HasDistinctSlots, HasSlots, NextErrPost, NextOkPost, initial_cursor}
use Rattle.ptmerge.specs.Calls.KeySpan.{IsKeySpan, IsValidCursor}
use Rattle.ptmerge.specs.Calls.MergeSlots.{EnsureFourSlotsErrPost, EnsureFourSlotsPost}
use Rattle.ptmerge.specs.Orders.{Key}
use Rattle.ptmerge.specs.Calls.Sides.{other}
use Rattle.ptmerge.specs.Calls.Sides.{both}
use Rattle.ptmerge.specs.declared.faults.MergeFault.{MergeFault}
use Rattle.ptmerge.specs.declared.key_order.Side.{Side}
use Rattle.ptmerge.specs.declared.key_order.Side.TheVariants.{First, Second}
use Rattle.ptmerge.specs.declared.merging.Step.{Step}
use Rattle.ptmerge.specs.declared.merging.cursor.CursorStatus.{CursorStatus}
use Rattle.ptmerge.specs.declared.merging.cursor.CursorStatus.TheVariants.{Disorder, Ended, Head}
use Rattle.ptmerge.specs.declared.merging.cursor.Sorted.{Sorted}
use Rattle.ptmerge.specs.declared.faults.MergeFault.TheVariants as faults
use Rattle.ptmerge.specs.declared.merging.Step.TheVariants as steps

-- The readers of both inputs, and the store that holds their lines.
pub record MergeInputs : Type 0 where
  pub reader : Side → Reader
  pub store : Slots

-- The inputs made of their three parts.
abbrev pub merge_inputs : Reader → Reader → Slots → MergeInputs
merge_inputs first second store = record { reader = both first second; store = store }

-- Both cursors use their own slots among the first four of the store, and their stored values are correct.
pub record AreValidCursors (key : Side → Key) (one two : Sorted) (store : Slots) : Type 0 where
  pub first : HasSlots First one
  pub second : HasSlots Second two
  pub slots : 4 ≤ length store.lines
  pub cursor_valid1 : IsValidCursor (key First) one store
  pub cursor_valid2 : IsValidCursor (key Second) two store

-- The reader belongs to this cursor: it has not failed, and the lines read so far together with those still to be read
-- are at most 2^63.
pub record IsReaderOf (cursor : Sorted) (reader : Reader) : Type 0 where
  pub clean : reader.fault ≡ None
  pub counted : cursor.number + budget reader ≤ 2 ^ 63

-- The precondition of `next`: the cursor's slots exist, `reader` is its reader, and its span is that of the current
-- line's key. Every reader is sound, but a caller learns that only by calling it; so `next` may assume it.
pub record NextPre (key : Key) (cursor : Sorted) (reader : Reader) (store : Slots) : Type 0 where
  pub distinct_slots : HasDistinctSlots cursor store
  pub own_reader : IsSound reader → IsReaderOf cursor reader
  pub cursor_valid : 0 < cursor.number
      → IsKeySpan (line store cursor.current_slot) (key (line store cursor.current_slot)) cursor.key

-- ---- the next step

-- The key `k` precedes everything that an input has yet to contribute: the input is at a line with a greater key, or at
-- its end, or out of order after a key that is not less.
abbrev pub PrecedesInput : Cmp → List ℕ → CursorStatus → List ℕ → List ℕ → Type 0
PrecedesInput cmp k Head head last = is_gt (cmp head k) ≡ true
PrecedesInput cmp k Ended head last = Unit {0}
PrecedesInput cmp k (Disorder n) head last = is_gt (cmp k last) ≡ false

-- The input `side`, whose last key in order is `l`, is out of order, and this can be reported: the other input has no
-- line left with a key up to `l`. If both are out of order, the input with the lesser last key is reported, or else the
-- first.
abbrev pub IsReportable : Cmp → Side → List ℕ → CursorStatus → List ℕ → List ℕ → Type 0
IsReportable cmp side l Head head last = is_gt (cmp head l) ≡ true
IsReportable cmp side l Ended head last = Unit {0}
IsReportable cmp First l (Disorder n) head last = is_gt (cmp l last) ≡ false
IsReportable cmp Second l (Disorder n) head last = is_gt (cmp last l) ≡ true

-- The key of an input's current line.
abbrev pub current_key : (Side → Key) → (Side → Sorted) → Slots → Side → List ℕ
current_key key cursor store side = key side (line store (cursor side).current_slot)

-- The key of an input's previous line.
abbrev pub previous_key : (Side → Key) → (Side → Sorted) → Slots → Side → List ℕ
previous_key key cursor store side = key side (line store (cursor side).previous_slot)

module _ (cmp : Cmp) (key : Side → Key) (cursor : Side → Sorted) (store : Slots) where
  -- Only this input's current line has the least key.
  pub record HasOnlyLeastKey (side : Side) : Type 0 where
    pub status_is : (cursor side).status ≡ Head
    pub before : PrecedesInput cmp (current_key key cursor store side) (cursor (other side)).status
        (current_key key cursor store (other side)) (previous_key key cursor store (other side))

  -- The current lines of both inputs have the same key.
  pub record HaveEqualKeys : Type 0 where
    pub first : (cursor First).status ≡ Head
    pub second : (cursor Second).status ≡ Head
    pub same : current_key key cursor store First ≡ current_key key cursor store Second

  -- The input `side` is out of order at the line `number`, and no further output is decided.
  pub record IsDisorderDecided (side : Side) (number : ℕ) : Type 0 where
    pub status_is : (cursor side).status ≡ Disorder number
    pub named : IsReportable cmp side (previous_key key cursor store side) (cursor (other side)).status
        (current_key key cursor store (other side)) (previous_key key cursor store (other side))

  -- The postcondition of `step`.
  abbrev pub StepPost : Step → Type 0
  StepPost steps.First = HasOnlyLeastKey First
  StepPost steps.Second = HasOnlyLeastKey Second
  StepPost steps.Both = HaveEqualKeys
  StepPost steps.End = (side : Side) → (cursor side).status ≡ Ended
  StepPost (steps.Stop side number) = IsDisorderDecided side number

-- ---- the start

-- Slots were added, the first input was advanced to its first line, and then `Then` holds of the store.
pub record StartFirstPost (key : Side → Key) (cmp : Cmp) (first : Sorted) (old new : MergeInputs)
    (Then : Slots → Type 0) : Type 0 where
  pub made : Slots
  pub mid : Slots
  pub four : EnsureFourSlotsPost old.store made
  pub came : NextOkPost (key First) cmp (initial_cursor First) first (old.reader First) (new.reader First) made mid
  pub later : Then mid

-- The postcondition of `start` if it succeeds: both inputs are at their first lines, or at their ends.
abbrev pub StartOkPost : (Side → Key) → Cmp → (Side → Sorted) → MergeInputs → MergeInputs → Type 0
StartOkPost key cmp cursor old new = StartFirstPost key cmp (cursor First) old new
    (λ mid. NextOkPost (key Second) cmp (initial_cursor Second) (cursor Second) (old.reader Second) (new.reader Second)
    mid new.store)

-- The postcondition of `start` if a slot could not be added: nothing was read.
pub record StartSlotFaultPost (old new : MergeInputs) (fault : MergeFault) : Type 0 where
  pub slots : EnsureFourSlotsErrPost old.store new.store
  pub unread : (side : Side) → new.reader side ≡ old.reader side
  pub memory : fault ≡ faults.Memory

-- The postcondition of `start` if reading the first input failed: nothing of the second input was read.
pub record StartFirstFaultPost (old new : MergeInputs) (fault : MergeFault) : Type 0 where
  pub made : Slots
  pub four : EnsureFourSlotsPost old.store made
  pub fails : NextErrPost First (initial_cursor First) (old.reader First) (new.reader First) made new.store fault
  pub unread : new.reader Second ≡ old.reader Second

-- The postcondition of `start` if reading the second input failed.
pub record StartSecondFaultPost (key : Side → Key) (cmp : Cmp) (old new : MergeInputs)
    (fault : MergeFault) : Type 0 where
  pub first : Sorted
  pub begins : StartFirstPost key cmp first old new
      (λ mid. NextErrPost Second (initial_cursor Second) (old.reader Second) (new.reader Second) mid new.store fault)

-- The postcondition of `start` if it fails.
abbrev pub StartErrPost : (Side → Key) → Cmp → MergeInputs → MergeInputs → MergeFault → Type 0
StartErrPost key cmp old new fault =
    StartSlotFaultPost old new fault ⊎ (StartFirstFaultPost old new fault ⊎ StartSecondFaultPost key cmp old new fault)
