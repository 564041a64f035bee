-- The output of `paste`, with and without option `-s`, as a function of its inputs. Also the output that a part of them
-- decides, bounds of the store, and `paste -s` as a tool over one input.
use Rattle.std.specs.Prelude.{ℕ, ◌+◌, ◌%◌, ◌==◌, ◌||◌, List, [], ◌∷◌, ◌++◌, Bool, false, length, take, max, map, filter, zip}
use Rattle.std.specs.Prelude.{fold, count_by, sum_by, nat_lt, Option, option_to_list, slice_index_or, if◌then◌else◌}
use Rattle.std.specs.List.{enumerate_from, range_with_len, list_all}
use Rattle.ptlines.specs.Text.{unlines, lines, max_line_length}
use Rattle.ptlines.specs.Received.{Received, known_lines}
use Rattle.ptlangs.specs.DelimLists.{delim_at}
use Rattle.ptlangs.specs.Jobs.{Paste}
use Rattle.ptflow.specs.Cuts.{select_from}
use Rattle.ptflow.specs.ToolSpec.{ToolSpec}

-- The delimiter between columns c and c + 1: one byte, or nothing for `\0`.
abbrev pub delimiter : List (Option ℕ) → ℕ → List ℕ
delimiter delims c = option_to_list (delim_at delims c)

-- The fields, the first of which is in column c, with the delimiters of the list between them. The list is reused from
-- its start when it is exhausted.
abbrev pub join_with_cycle : List (Option ℕ) → ℕ → List (List ℕ) → List ℕ
join_with_cycle delims c [] = []
join_with_cycle delims c (x ∷ []) = x
join_with_cycle delims c (x ∷ y ∷ more) = x ++ delimiter delims c ++ join_with_cycle delims (c + 1) (y ∷ more)

-- ---- `paste -s`: all lines of one input in one row

-- The output of `paste -s` for the text of one input: its lines in one row.
abbrev pub paste_serial : Paste → List ℕ → List ℕ
paste_serial job bytes = join_with_cycle job.delimiters 0 (lines job.terminator bytes) ++ job.terminator ∷ []

-- The part of the output that is determined by the bytes received so far: the complete lines, and the terminator of the
-- row once the input has ended.
abbrev pub paste_serial_decided : Paste → Received → List ℕ
paste_serial_decided job given = join_with_cycle job.delimiters 0 (known_lines job.terminator given)
    ++ (if given.eof then job.terminator ∷ [] else [])

-- `paste -s` as a tool over one input. It keeps no line in the store.
abbrev pub paste_serial_tool : Paste → ToolSpec
paste_serial_tool job = record {
  text = paste_serial job;
  decided = paste_serial_decided job;
  size = max_line_length job.terminator;
  slots = 0;
  end = job.terminator;
  keeps_end = false;
}

-- ---- `paste` without `-s`: several inputs side by side

-- Lines j, j + k, j + 2k and so on.
abbrev pub every_kth : ℕ → ℕ → List (List ℕ) → List (List ℕ)
every_kth k j ls = select_from (λ i. i % k == j) 0 ls

-- The number of columns that read the input with index `input`.
abbrev pub uses_of : List ℕ → ℕ → ℕ
uses_of cells input = count_by (λ p. p == input) cells

-- The lines of each column. An input that several columns read deals its lines out to them in order.
abbrev pub columns : List ℕ → (ℕ → List (List ℕ)) → List (List (List ℕ))
columns cells inputs = map (λ (cell : ℕ × ℕ). every_kth (uses_of cells cell.1) (uses_of (take cell.0 cells) cell.1)
    (inputs cell.1)) (enumerate_from 0 cells)

-- The number of rows: the length of the longest column.
abbrev pub row_count : List (List (List ℕ)) → ℕ
row_count cols = fold max 0 (map length cols)

-- The fields of row r; a column that has ended gives an empty field.
abbrev pub row_at : List (List (List ℕ)) → ℕ → List (List ℕ)
row_at cols r = map (λ col. slice_index_or col r []) cols

-- All rows, in order.
abbrev pub rows : List (List (List ℕ)) → List (List (List ℕ))
rows cols = map (row_at cols) (range_with_len 0 (row_count cols))

-- The text of some rows: each with its delimiters and its terminator.
abbrev pub rows_text : Paste → List (List (List ℕ)) → List ℕ
rows_text job rs = unlines job.terminator (map (join_with_cycle job.delimiters 0) rs)

-- The output of `paste` without `-s`: row after row, the next line of each column. `cells` has the index of the input of
-- each column, and `texts` the text of each input.
abbrev pub paste : Paste → List ℕ → (ℕ → List ℕ) → List ℕ
paste job cells texts = rows_text job (rows (columns cells (λ input. lines job.terminator (texts input))))

-- Row r is determined: each column has its line r, or its input has ended.
abbrev pub is_row_known : List (List (List ℕ)) → List Bool → ℕ → Bool
is_row_known cols eof r = list_all (λ (c : List (List ℕ) × Bool). c.1 || nat_lt r (length c.0)) (zip cols eof)

-- The rows that are determined, in order.
abbrev pub known_rows : List (List (List ℕ)) → List Bool → List (List (List ℕ))
known_rows cols eof = map (row_at cols) (filter (is_row_known cols eof) (range_with_len 0 (row_count cols)))

-- The part of the output that is determined by the bytes received so far: the rows that are known.
abbrev pub paste_decided : Paste → List ℕ → (ℕ → Received) → List ℕ
paste_decided job cells given =
    rows_text job (known_rows (columns cells (λ input. known_lines job.terminator (given input)))
    (map (λ input. (given input).eof) cells))

-- A bound on the bytes in the store: one longest line for each column.
abbrev pub paste_size : Paste → List ℕ → (ℕ → List ℕ) → ℕ
paste_size job cells texts = sum_by (λ input. max_line_length job.terminator (texts input)) cells
