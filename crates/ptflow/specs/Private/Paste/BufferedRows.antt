-- Rows of `paste` whose lines are all complete in the buffers of their readers, or missing because the input has
-- ended: what it means that they were taken from the readers (`RowsTaken`), and the contracts of the functions that
-- copy a field, some columns, or rows (`CopyCellPost`, `CopyColumnsPost`, `CopyRowsPost`), or write rows.
use Rattle.std.specs.Prelude.{◌≡◌, ℕ, ◌+◌, ◌*◌, ◌<◌, ◌≤◌, Bool, true, false, List, [], ◌++◌, None, Some, All, length}
use Rattle.std.specs.Prelude.{map, take, drop, sum_by, slice_set}
use Rattle.memchr.specs.Find.{IsFirstByte, is_byte}
use Rattle.ptlines.specs.Text.{unlines}
use Rattle.ptlines.specs.Calls.Outputs.{Output, PushEffect}
use Rattle.ptlines.specs.Readers.{Reader, reader_at}
use Rattle.ptlines.specs.Calls.Readers.{budget}
use Rattle.ptflow.specs.PasteText.{uses_of, join_with_cycle, columns, rows}
use Rattle.ptflow.specs.Private.Paste.RowCells.{RowShape, BegunText, CellsFilled, cells_text}
use Rattle.ptflow.specs.Private.Paste.TakenLines.{LinesTaken}
use Rattle.ptflow.specs.declared.tools.paste.buffered_rows.CopiedField.{CopiedField}
use Rattle.ptlines.specs.declared.sizes.TheConstants.{BLOCK}

-- Each column has a reader, which is readable and has the terminator of the rows.
pub record BufferedRowsPre (row : RowShape) (readers : List Reader) : Type 0 where
  pub within : All (λ input. input < length readers) row.cells
  pub unfailed : (input : ℕ) → 0 < uses_of row.cells input → (reader_at readers input).fault ≡ None
  pub same_end : (input : ℕ) → 0 < uses_of row.cells input → (reader_at readers input).terminator ≡ row.terminator

-- The first `size` buffered bytes of a reader were consumed, and nothing else has changed.
pub record IsConsumed (old new : Reader) : Type 0 where
  pub size : ℕ
  pub is : new ≡ record old { buffered = drop size old.buffered }

-- From each reader some of the buffered bytes were consumed, and nothing else has changed.
pub record AreConsumed (old new : List Reader) : Type 0 where
  pub count : length new ≡ length old
  pub buffered : (input : ℕ) → IsConsumed (reader_at old input) (reader_at new input)

-- The readers after the first n buffered bytes of one of them were consumed.
abbrev pub after_one : List Reader → ℕ → ℕ → List Reader
after_one readers one n =
    let first = reader_at readers one in slice_set readers one (record first { buffered = drop n first.buffered })

-- The same, and the first m buffered bytes of another one.
abbrev pub after_both : List Reader → ℕ → ℕ → ℕ → ℕ → List Reader
after_both readers one n other m =
    let second = reader_at readers other in
    slice_set (after_one readers one n) other (record second { buffered = drop m second.buffered })

-- The lines of the next rows were taken from the readers, and these are `taken_rows`.
pub record AreFirstRows (row : RowShape) (old new : List Reader) (ls : ℕ → List (List ℕ))
    (taken_rows : List (List (List ℕ))) : Type 0 where
  pub lines_taken : (input : ℕ) → LinesTaken row.terminator (reader_at old input) (reader_at new input)
      (length taken_rows * uses_of row.cells input) (ls input)
  pub are : rows (columns row.cells ls) ≡ taken_rows
  pub count : length new ≡ length old

-- Some rows were taken, or none, and `written` is their text.
pub record RowsTaken (row : RowShape) (old new : List Reader) (written : List ℕ) : Type 0 where
  pub ls : ℕ → List (List ℕ)
  pub taken_rows : List (List (List ℕ))
  pub first_rows : AreFirstRows row old new ls taken_rows
  pub least : sum_by budget new ≤ sum_by budget old
  pub is : written ≡ unlines row.terminator (map (join_with_cycle row.delims 0) taken_rows)

-- The line at the start of `bytes`, which has `size` bytes, was copied to the index `at`, and fits into the block.
pub record IsLineCopied (end : ℕ) (bytes : List ℕ) (at : ℕ) (old new : List ℕ) (size : ℕ) : Type 0 where
  pub found : IsFirstByte (is_byte end) bytes (Some size)
  pub fits : at + size < BLOCK
  pub is : take (at + size) new ≡ take at old ++ take size bytes

-- The line at the start of a buffer was appended to the copied bytes, and consumed.
pub record LineCopied (end : ℕ) (old new : Reader) (before after : List ℕ) : Type 0 where
  pub at : ℕ
  pub found : IsFirstByte (is_byte end) old.buffered (Some at)
  pub consumed : new ≡ record old { buffered = drop (at + 1) old.buffered }
  pub is : after ≡ before ++ take at old.buffered

-- A reader is at the end of its input, and nothing was copied.
pub record EofCopied (old new : Reader) (before after : List ℕ) : Type 0 where
  pub eof : old.eof ≡ true
  pub none : old.buffered ≡ []
  pub same : new ≡ old
  pub is : after ≡ before

-- A field was appended to the copied bytes: a line, or nothing if the input has ended.
abbrev pub IsFieldCopied : ℕ → Reader → Reader → List ℕ → List ℕ → Bool → Type 0
IsFieldCopied end old new before after true = LineCopied end old new before after
IsFieldCopied end old new before after false = EofCopied old new before after

-- The postcondition of `copy_cell`, if the field was copied after the bytes `before` of the buffer `into`.
abbrev pub CopyCellPost : ℕ → Reader → Reader → List ℕ → List ℕ → CopiedField → Type 0
CopyCellPost end old new before into field = IsFieldCopied end old new before (take field.end into) field.is_line

-- The postcondition of `copy_columns`. Further columns of a row took their fields from the buffers, regardless of how
-- the columns before them had been filled, and their text was appended.
pub record CopyColumnsPost (row : RowShape) (old new : BegunText) : Type 0 where
  pub fields : List (List ℕ)
  pub is : new.text ≡ old.text ++ cells_text row old.count fields
  pub consumed : AreConsumed old.readers new.readers
  pub width : old.count + length fields ≡ new.count
  pub filled : (from : List Reader) (front : List (List ℕ))
      → CellsFilled row old.count from old.readers front old.any_line
      → CellsFilled row new.count from new.readers (front ++ fields) new.any_line

-- The postcondition of `copy_rows`: rows were taken from the buffers, `copied` is their text, and the next row is
-- begun.
pub record CopyRowsPost (row : RowShape) (old : List Reader) (copied : List ℕ) (begun : BegunText) : Type 0 where
  pub mid : List Reader
  pub rows : RowsTaken row old mid copied
  pub fields : List (List ℕ)
  pub filled : CellsFilled row begun.count mid begun.readers fields begun.any_line
  pub is : begun.text ≡ cells_text row 0 fields
  pub consumed : AreConsumed old begun.readers

-- Rows were taken from the buffers, or none, and their text was pushed.
pub record RowsWritten (row : RowShape) (old new : List Reader) (was is : Output) : Type 0 where
  pub written : List ℕ
  pub rows : RowsTaken row old new written
  pub consumed : AreConsumed old new
  pub wrote : PushEffect was is written
