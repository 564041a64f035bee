-- The output of `cut` (POSIX.1-2017, XCU, `cut`). Also the output that a part of an input decides, and bounds of the
-- store. `cut_tool` has all of these.
use Rattle.std.specs.Prelude.{ℕ, ◌+◌, ◌==◌, List, [], ◌∷◌, Bool, false, if◌then◌else◌}
use Rattle.std.specs.List.{flat_map, list_any, slice_split, join_with_byte}
use Rattle.ptlines.specs.Text.{unlines, lines, max_line_length}
use Rattle.ptlines.specs.Received.{Received, known_lines}
use Rattle.ptlangs.specs.Jobs.{Cut}
use Rattle.ptflow.specs.ToolSpec.{ToolSpec}

-- the items whose position, counted from n, passes the test
abbrev pub select_from : {X : Type 0} → (ℕ → Bool) → ℕ → List X → List X
select_from test n [] = []
select_from test n (x ∷ xs) = if test n then x ∷ select_from test (n + 1) xs else select_from test (n + 1) xs

-- the bytes of a line whose numbers, counted from 1, are selected
abbrev pub cut_bytes : Cut → List ℕ → List ℕ
cut_bytes job line = select_from job.selected 1 line

-- a byte is the field delimiter
abbrev pub is_field_delimiter : Cut → ℕ → Bool
is_field_delimiter job b = b == job.delimiter

-- the fields whose numbers, counted from 1, are selected, joined by the delimiter
abbrev pub cut_fields : Cut → List ℕ → List ℕ
cut_fields job line = join_with_byte job.delimiter
    (select_from job.selected 1 (slice_split (is_field_delimiter job) line))

-- the output lines for a line: one, or none
abbrev pub cut_line : Cut → List ℕ → List (List ℕ)
cut_line job line =
    if job.fields
    then (if list_any (is_field_delimiter job) line then cut_fields job line ∷ [] else
    (if job.only then [] else line ∷ []))
    else cut_bytes job line ∷ []

-- the output for some lines
abbrev pub cut_lines : Cut → List (List ℕ) → List ℕ
cut_lines job ls = unlines job.terminator (flat_map (cut_line job) ls)

-- The output of `cut` for a text: of each line, in order, the selected bytes or fields. A line without the delimiter has
-- no fields: it is written as it is, or with `-s` left out (`cut_line`).
abbrev pub cut : Cut → List ℕ → List ℕ
cut job bytes = cut_lines job (lines job.terminator bytes)

-- the output that part of an input decides: that for its complete lines
abbrev pub cut_decided : Cut → Received → List ℕ
cut_decided job given = cut_lines job (known_lines job.terminator given)

-- A line that is cut by fields is kept in a slot; for bytes nothing is kept.
abbrev pub cut_tool : Cut → ToolSpec
cut_tool job =
    record {
      text = cut job;
      decided = cut_decided job;
      size = max_line_length job.terminator;
      slots = if job.fields
          then 1 else 0;
      end = job.terminator;
      keeps_end = false;
    }
