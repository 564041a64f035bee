-- The span of the key in a line, and what it means that the values stored by a cursor are correct (`IsValidCursor`).
use Rattle.std.specs.Prelude.{◌≡◌, ◌≤◌, ℕ, List, length}
use Rattle.std.specs.List.{slice_range}
use Rattle.ptlines.specs.Calls.Slots.{line}
use Rattle.ptlines.specs.Slots.{Slots}
use Rattle.ptmerge.specs.Orders.{Key}
use Rattle.ptmerge.specs.declared.key_order.Span.{Span}
use Rattle.ptmerge.specs.declared.merging.cursor.CursorStatus.TheVariants.{Disorder, Head}
use Rattle.ptmerge.specs.declared.merging.cursor.Sorted.{Sorted}

-- The span selects these bytes of the line.
pub record IsKeySpan (line bytes : List ℕ) (span : Span) : Type 0 where
  pub ordered : span.start ≤ span.end
  pub within : span.end ≤ length line
  pub bytes_are : slice_range line span.start span.end ≡ bytes

-- The cursor's stored values are correct: the span of the key in the current line, and the number of a line out of
-- order.
pub record IsValidCursor (key : Key) (cursor : Sorted) (store : Slots) : Type 0 where
  pub head : cursor.status ≡ Head
      → IsKeySpan (line store cursor.current_slot) (key (line store cursor.current_slot)) cursor.key
  pub broken : (number : ℕ) → cursor.status ≡ Disorder number → number ≡ cursor.number
