-- The cursor of one input of a merge: its state, and the contract of its call `next`. An input has two slots, for its
-- current and its previous line, which are swapped for each line that is read.
use Rattle.std.specs.Prelude.{◌≡◌, ◌≢◌, ◌⊎◌, ℕ, ◌+◌, ◌<◌, ◌&&◌, nat_lt, if◌then◌else◌, Bool, false, List, [], length}
use Rattle.std.specs.Prelude.{Result, Ok, Err}
use Rattle.std.specs.Ordering.{is_eq, is_gt}
use Rattle.ptlines.specs.ByteOrder.{Cmp}
use Rattle.ptlines.specs.Calls.ReadLine.{FillLine, FillMemoryErr, FillReadErr}
use Rattle.ptlines.specs.Calls.Readers.{AdvanceOk, IsSound}
use Rattle.ptlines.specs.Calls.Slots.{line, with_line}
use Rattle.ptlines.specs.Readers.{IsDone, Reader}
use Rattle.ptlines.specs.Slots.{Slots}
use Rattle.ptmerge.specs.Orders.{Key}
use Rattle.ptmerge.specs.declared.faults.MergeFault.{MergeFault}
use Rattle.ptmerge.specs.declared.faults.MergeFault.TheVariants.{Memory, Read, Write}
use Rattle.ptmerge.specs.declared.key_order.Side.{Side}
use Rattle.ptmerge.specs.declared.key_order.Side.TheVariants.{First, Second}
use Rattle.ptmerge.specs.declared.key_order.Span.{Span}
use Rattle.ptmerge.specs.declared.merging.cursor.CursorStatus.{CursorStatus}
use Rattle.ptmerge.specs.declared.merging.cursor.CursorStatus.TheVariants.{Disorder, Ended, Head}
use Rattle.ptmerge.specs.declared.merging.cursor.Sorted.{Sorted}
use Rattle.ptmerge.specs.declared.faults.MergeFault.TheVariants as faults

-- The first of the two slots of an input.
abbrev pub base_slot : Side → ℕ
base_slot First = 0
base_slot Second = 2

-- A span of no bytes.
abbrev pub empty_span : Span
empty_span = record { start = 0; end = 0 }

-- The cursor before anything was read.
abbrev pub initial_cursor : Side → Sorted
initial_cursor side = record {
  current_slot = base_slot side + 1;
  previous_slot = base_slot side;
  number = 0;
  status = Ended;
  same = false;
  key = empty_span;
}

-- The cursor uses the two slots of its input, in either order.
abbrev pub HasSlots : Side → Sorted → Type 0
HasSlots side cursor =
    ((cursor.current_slot ≡ base_slot side) × (cursor.previous_slot ≡ base_slot side + 1))
    ⊎ ((cursor.current_slot ≡ base_slot side + 1) × (cursor.previous_slot ≡ base_slot side))

-- The cursor's two slots exist and are distinct.
pub record HasDistinctSlots (cursor : Sorted) (store : Slots) : Type 0 where
  pub current_slot : cursor.current_slot < length store.lines
  pub previous_slot : cursor.previous_slot < length store.lines
  pub apart : cursor.current_slot ≢ cursor.previous_slot

-- The status after reading the line `next`, if `number` lines were read before and the last of them is `last`.
abbrev pub status_at : Key → Cmp → ℕ → List ℕ → List ℕ → CursorStatus
status_at key cmp number last next =
    if nat_lt 0 number && is_gt (cmp (key last) (key next)) then Disorder (number + 1) else Head

-- The line `next` has the key of the line `last` before it; false for the first line.
abbrev pub same_key_at : Key → Cmp → ℕ → List ℕ → List ℕ → Bool
same_key_at key cmp number last next = nat_lt 0 number && is_eq (cmp (key last) (key next))

-- The postcondition of `next` if there is a next line.
pub record NextLinePost (key : Key) (cmp : Cmp) (old new : Sorted) (was is : Reader)
    (before after : Slots) : Type 0 where
  pub next_line : FillLine was is before after old.previous_slot
  pub cursor : new ≡ record {
    current_slot = old.previous_slot;
    previous_slot = old.current_slot;
    number = old.number + 1;
    status = status_at key cmp old.number (line before old.current_slot) next_line.line;
    same = same_key_at key cmp old.number (line before old.current_slot) next_line.line;
    key = new.key;
  }
  pub sound : IsSound is

-- The postcondition of `next` at the end of the input.
pub record NextEofPost (old new : Sorted) (was is : Reader) (before after : Slots) : Type 0 where
  pub advance_ok : AdvanceOk was is []
  pub done : IsDone is
  pub empty : after ≡ with_line before old.previous_slot []
  pub cursor : new ≡ record {
    current_slot = old.previous_slot;
    previous_slot = old.current_slot;
    number = old.number;
    status = Ended;
    same = false;
    key = new.key;
  }
  pub sound : IsSound is

-- The postcondition of `next` if it succeeds.
abbrev pub NextOkPost : Key → Cmp → Sorted → Sorted → Reader → Reader → Slots → Slots → Type 0
NextOkPost key cmp old new was is before after =
    NextLinePost key cmp old new was is before after ⊎ NextEofPost old new was is before after

-- The postcondition of `next` if it fails.
abbrev pub NextErrPost : Side → Sorted → Reader → Reader → Slots → Slots → MergeFault → Type 0
NextErrPost side old was is before after (Read file) =
    FillReadErr was is before after old.previous_slot × (file ≡ side) × IsSound is
NextErrPost side old was is before after Write = ⊥
NextErrPost side old was is before after Memory = FillMemoryErr was is before after old.previous_slot × IsSound is
NextErrPost side old was is before after (faults.Disorder file number) = ⊥

-- The postcondition of `next`.
abbrev pub NextPost : Key → Cmp → Side → Sorted → Sorted → Reader → Reader → Slots → Slots
    → Result (Unit {0}) MergeFault → Type 0
NextPost key cmp side old new was is before after (Ok u) = NextOkPost key cmp old new was is before after
NextPost key cmp side old new was is before after (Err fault) = NextErrPost side old was is before after fault
