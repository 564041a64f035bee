-- A row of `paste`, column by column: its shape (`RowShape`), its text, which is the field of each column and the
-- byte after it, and a begun row in a buffer (`BegunText`). And what it means that the first columns took their
-- fields from the readers (`CellsTaken`, `CellsFilled`).
use Rattle.std.specs.Prelude.{◌≡◌, ◌==◌, ℕ, ◌+◌, ◌<◌, ◌≤◌, Bool, true, false, List, [], ◌∷◌, ◌++◌, Option, length, take}
use Rattle.std.specs.Prelude.{drop, sum_by, slice_index_or, if◌then◌else◌}
use Rattle.ptlines.specs.Readers.{Reader, reader_at}
use Rattle.ptlines.specs.Calls.Readers.{budget}
use Rattle.ptlines.specs.Slots.{Slots}
use Rattle.ptlangs.specs.Jobs.{Paste}
use Rattle.ptflow.specs.PasteText.{delimiter, uses_of}
use Rattle.ptflow.specs.Private.Paste.TakenLines.{LinesTaken}
use Rattle.ptflow.specs.declared.tools.paste.row.BegunRow.{BegunRow}
use Rattle.ptflow.specs.declared.tools.paste.row.CopiedRows.{CopiedRows}
use Rattle.ptflow.specs.declared.tools.paste.row.RowFormat.{RowFormat}

-- The shape of all rows: the input of each column, the list of delimiters, and the terminator of lines and rows.
pub record RowShape : Type 0 where
  pub cells : List ℕ
  pub delims : List (Option ℕ)
  pub terminator : ℕ

-- The shape of the rows of a job.
abbrev pub job_shape : Paste → List ℕ → RowShape
job_shape job cells = record { cells = cells; delims = job.delimiters; terminator = job.terminator }

-- The shape that a value of the code states.
abbrev pub shape_of : RowFormat → RowShape
shape_of row = record { cells = row.cells.now; delims = row.delims.now; terminator = row.terminator }

-- The byte after column c: its delimiter, which may be empty, or after the last column the terminator.
abbrev pub after_cell : RowShape → ℕ → List ℕ
after_cell row c = if c + 1 == length row.cells then row.terminator ∷ [] else delimiter row.delims c

-- The fields, the first of which is in column c, each with the byte after it.
abbrev pub cells_text : RowShape → ℕ → List (List ℕ) → List ℕ
cells_text row c [] = []
cells_text row c (x ∷ xs) = (x ++ after_cell row c) ++ cells_text row (c + 1) xs

-- The fields in the slots from column c on, each with the byte after it.
abbrev pub slots_text : RowShape → ℕ → Slots → List ℕ
slots_text row c store = cells_text row c (drop c (take (length row.cells) store.lines))

-- A row that is being copied: the readers after its first `count` columns, the text of these, and whether one of them
-- has a line.
pub record BegunText : Type 0 where
  pub readers : List Reader
  pub count : ℕ
  pub any_line : Bool
  pub text : List ℕ

-- The row that was begun at the start of a buffer.
abbrev pub begun_in : List Reader → BegunRow → List ℕ → BegunText
begun_in readers row into = record {
  readers = readers;
  count = row.count;
  any_line = row.any_line;
  text = take row.end into;
}

-- The row that was begun after the rows in a buffer.
abbrev pub begun_after : List Reader → CopiedRows → List ℕ → BegunText
begun_after readers rows into = record (begun_in readers rows.begun into) {
  text = drop rows.end
      (take rows.begun.end into);
}

-- The first n columns of a row took their fields from the readers: `input_lines` has the lines by input, and `fields`
-- by column. A column whose input has ended has an empty field.
pub record CellsTaken (row : RowShape) (n : ℕ) (old new : List Reader) (fields : List (List ℕ))
    (input_lines : ℕ → List (List ℕ)) : Type 0 where
  pub lines_taken : (input : ℕ) → LinesTaken row.terminator (reader_at old input) (reader_at new input)
      (uses_of (take n row.cells) input) (input_lines input)
  pub width : length fields ≡ n
  pub fields_taken : (c : ℕ) → c < n
      → slice_index_or fields c [] ≡ slice_index_or (input_lines (slice_index_or row.cells c 0))
      (uses_of (take c row.cells) (slice_index_or row.cells c 0)) []
  pub count : length new ≡ length old

-- The first n columns of a row took their fields, for some lines. `any_line` is true if one of them got a line, and
-- false if all of their readers had ended.
pub record CellsFilled (row : RowShape) (n : ℕ) (old new : List Reader) (fields : List (List ℕ))
    (any_line : Bool) : Type 0 where
  pub input_lines : ℕ → List (List ℕ)
  pub consumed : CellsTaken row n old new fields input_lines
  pub some : any_line ≡ true → (c : ℕ) × (c < n)
      × (length (input_lines (slice_index_or row.cells c 0))
      ≡ uses_of (take c row.cells) (slice_index_or row.cells c 0) + 1)
  pub none : any_line ≡ false → (input : ℕ) → input_lines input ≡ []
  pub least : sum_by budget new ≤ sum_by budget old
  pub less : any_line ≡ true → sum_by budget new < sum_by budget old
