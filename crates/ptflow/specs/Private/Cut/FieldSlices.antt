-- The slices of a line that are its selected fields, one after another: the cursor that gives them (`IsFieldCursor`),
-- the output that is left from it on, and the next slice of this output (`IsNextSlice`).
use Rattle.std.specs.Prelude.{◌≡◌, ℕ, ◌+◌, ◌-◌, ◌<◌, ◌≤◌, List, ◌++◌, length, take, drop, min}
use Rattle.memchr.specs.Find.{is_byte}
use Rattle.ptlangs.specs.Calls.CutLists.{AreSeparated}
use Rattle.ptlangs.specs.CutLists.{is_selected}
use Rattle.ptflow.specs.Cuts.{select_from}
use Rattle.ptflow.specs.Private.Cut.FieldOffsets.{IsFieldOffset, fields, prefixed_fields}
use Rattle.ptlines.specs.Calls.Scan.{IsMatchWindow}
use Rattle.ptflow.specs.declared.tools.cut.fields.FieldCursor.{FieldCursor}
use Rattle.ptflow.specs.declared.tools.cut.fields.LineSlice.{LineSlice}

-- the output that is left from the cursor on: the fields that its intervals select
abbrev pub output_from_cursor : ℕ → List ℕ → FieldCursor → List ℕ
output_from_cursor delimiter line cursor =
    drop (1 - min cursor.passed 1) (prefixed_fields delimiter
    (select_from (is_selected cursor.left.now) (cursor.passed + 1) (drop cursor.passed (fields delimiter line))))

-- The cursor is at the field after those before it, and its intervals begin at a later one, if any field was passed.
pub record IsFieldCursor (delimiter : ℕ) (line : List ℕ) (cursor : FieldCursor) : Type 0 where
  pub offset : IsFieldOffset delimiter cursor.passed line (min cursor.window.at (length line + 1))
  pub apart : AreSeparated (cursor.passed + min cursor.passed 1) cursor.left.now

-- the window of the cursor has the delimiters after it, unless it is after the line, which is the first `to` bytes
abbrev pub IsLineWindow : ℕ → List ℕ → ℕ → FieldCursor → Type 0
IsLineWindow delimiter bytes to cursor =
    cursor.window.at ≤ to → IsMatchWindow (is_byte delimiter) bytes cursor.window

-- the output that is left begins with this slice
pub record IsNextSlice (delimiter : ℕ) (line : List ℕ) (cursor : FieldCursor) (slice : LineSlice) (next : FieldCursor)
    : Type 0 where
  pub output : output_from_cursor delimiter line cursor ≡ take (slice.end - slice.start) (drop slice.start line)
      ++ output_from_cursor delimiter line next
  pub order : slice.start ≤ slice.end
  pub within : slice.end ≤ length line
  pub moved : IsFieldCursor delimiter line next
  pub later : length next.left.now < length cursor.left.now
