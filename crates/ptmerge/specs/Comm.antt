-- The output of `comm` (POSIX.1-2017, XCU, `comm`): a merge of two inputs by whole lines. Also the output that parts of
-- them decide, the disorder that is reported, and bounds of the store.
use Rattle.std.specs.Prelude.{ℕ, ◌-◌, List, [], ◌∷◌, ◌++◌, length, min, Bool, false, if◌then◌else◌, replicate}
use Rattle.std.specs.Prelude.{Option, option_map}
use Rattle.std.specs.Str.{byte}
use Rattle.ptlines.specs.Engines.{EngineSpec}
use Rattle.ptlines.specs.Received.{Received, known_lines}
use Rattle.ptlines.specs.Text.{lines, unlines}
use Rattle.ptlangs.specs.Jobs.{Comm}
use Rattle.ptmerge.specs.MergeSpec.{Entries, MergeDisorder, disordered_line, merged, merged_so_far, reported_disorder}
use Rattle.ptmerge.specs.MergeSpec.{two_lines_of_each}
use Rattle.ptmerge.specs.Orders.{Key, line_cmp}
use Rattle.ptmerge.specs.declared.key_order.Side.{Side}
use Rattle.ptmerge.specs.declared.key_order.Side.TheVariants.{First, Second}

-- A tab for an earlier column, if it is shown.
abbrev pub tab_if_shown : Bool → List ℕ
tab_if_shown hidden = if hidden then [] else byte "\t" ∷ []

-- `n` output lines for `line` in a column, after the tabs of the earlier columns.
abbrev pub column_entries : Bool → List ℕ → ℕ → List ℕ → List (List ℕ)
column_entries hidden tabs n line = if hidden then [] else replicate n (tabs ++ line)

-- The output lines for a line that the two inputs have `c1` and `c2` times: common lines as often as both have it, and
-- then the surplus of one input in the column of this input.
abbrev pub entries : Comm → List ℕ → ℕ → ℕ → List (List ℕ)
entries job line c1 c2 =
    column_entries job.hide3 (tab_if_shown job.hide1 ++ tab_if_shown job.hide2) (min c1 c2) line
    ++ column_entries job.hide1 [] (c1 - c2) line
    ++ column_entries job.hide2 (tab_if_shown job.hide1) (c2 - c1) line

-- The output lines for a line, given its occurrences in the two texts.
abbrev pub comm_entries : Comm → Entries
comm_entries job line g1 g2 = entries job line (length g1) (length g2)

-- Each line is its own key.
abbrev pub itself : Key
itself line = line

-- The output of `comm` for two texts: for each line that one of them has, once and in order, the columns of this line
-- (`entries`), by how often each text has it. If a text is not sorted, it ends where that shows (`merged`).
abbrev pub comm_output : Comm → List ℕ → List ℕ → List ℕ
comm_output job first second =
    unlines job.terminator (merged (line_cmp job.descending) itself itself (comm_entries job)
    (lines job.terminator first) (lines job.terminator second))

-- The output that is decided by what was received of both.
abbrev pub comm_decided : Comm → Received → Received → List ℕ
comm_decided job first second =
    unlines job.terminator (merged_so_far (line_cmp job.descending) itself itself (comm_entries job)
    first.eof (known_lines job.terminator first) second.eof (known_lines job.terminator second))

-- The disorder that is reported for two texts, if one of them is not sorted.
abbrev pub comm_disorder : Comm → List ℕ → List ℕ → Option MergeDisorder
comm_disorder job first second =
    reported_disorder (line_cmp job.descending) itself itself (lines job.terminator first) (lines job.terminator second)

-- `comm` as an engine. It stores at most two lines of each input.
abbrev pub comm_engine : Comm → EngineSpec Side
comm_engine job = record {
  text = λ texts. comm_output job (texts First) (texts Second);
  decided = λ given. comm_decided job (given First) (given Second);
  disorder = λ texts. option_map disordered_line (comm_disorder job (texts First) (texts Second));
  size = λ texts. two_lines_of_each job.terminator (texts First) (texts Second);
  slots = λ texts. 4;
  first_slots = 4;
  keeps_groups = false;
  terminator = job.terminator;
  keeps_terminator = false;
}
