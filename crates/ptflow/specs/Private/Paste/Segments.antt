-- Segments of a row of `paste`: a column, and the columns after it whose inputs have ended. And rows
-- that are one segment.
use Rattle.std.specs.Prelude.{◌≡◌, ℕ, ◌+◌, ◌<◌, ◌≤◌, true, List, [], ◌∷◌, ◌++◌, length, take, slice_index_or}
use Rattle.ptlines.specs.Calls.Readers.{IsSound}
use Rattle.ptlines.specs.Readers.{Reader, reader_at}
use Rattle.ptflow.specs.Private.Cut.CutFrom.{IsSameLine}
use Rattle.ptflow.specs.Private.Paste.BufferedRows.{AreConsumed, CopyColumnsPost, RowsTaken, after_one}
use Rattle.ptflow.specs.Private.Paste.RowCells.{BegunText, RowShape, after_cell}
use Rattle.ptflow.specs.declared.tools.paste.buffered_rows.CopiedLines.{CopiedLines}
use Rattle.ptflow.specs.declared.tools.paste.segments.Segment.{Segment}
use Rattle.ptlines.specs.declared.sizes.TheConstants.{BLOCK}

-- A reader has given all of its input.
pub record IsEnded (r : Reader) : Type 0 where
  pub eof : r.eof ≡ true
  pub none : r.buffered ≡ []
  pub sound : IsSound r

-- Columns c up to `next` are copied if the field of column c is followed by `bytes`: now, and after more of the bytes
-- of the readers were consumed.
abbrev pub EndsWith : RowShape → List Reader → ℕ → ℕ → List ℕ → Type 0
EndsWith row readers c next bytes = (first : BegunText) (field : List ℕ) → first.count ≡ c + 1
    → first.text ≡ field ++ after_cell row c → AreConsumed readers first.readers
    → CopyColumnsPost row first (record first { count = next; text = field ++ bytes })

-- A segment that begins with column c: its bytes end its columns, of which only the first one may have a line.
pub record IsSegment (row : RowShape) (readers : List Reader) (c : ℕ) (segment : Segment) : Type 0 where
  pub input : segment.input ≡ slice_index_or row.cells c 0
  pub some : 0 < segment.count
  pub within : c + segment.count ≤ length row.cells
  pub few : segment.len ≤ 16
  pub ends : EndsWith row readers c (c + segment.count) (take segment.len segment.bytes)

-- Segments of which the first one begins with column c, and each other one where the one before it ends.
abbrev pub AreSegments : RowShape → List Reader → ℕ → List Segment → Type 0
AreSegments row readers c [] = Unit {0}
AreSegments row readers c (segment ∷ segments) = IsSegment row readers c segment
    × AreSegments row readers (c + segment.count) segments

-- A segment is all columns of a row.
pub record IsRow (row : RowShape) (readers : List Reader) (segment : Segment) : Type 0 where
  pub is : IsSegment row readers 0 segment
  pub all : segment.count ≡ length row.cells

-- The first lines of a reader were copied as rows, to the start of `into`. The line after them includes the index `at`.
pub record AreRowsCopied (row : RowShape) (readers : List Reader) (input at : ℕ) (copied : CopiedLines) (into : List ℕ)
    : Type 0 where
  pub rows : RowsTaken row readers (after_one readers input copied.start) (take copied.end into)
  pub same : IsSameLine row.terminator (reader_at readers input).buffered at copied.start
  pub fits : copied.end ≤ BLOCK
