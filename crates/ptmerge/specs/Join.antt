-- The output of `join` (POSIX.1-2017, XCU, `join`): a merge of two inputs by join fields. Also the output that parts of
-- them decide, the disorder that is reported, and bounds of the store.
use Rattle.std.specs.Prelude.{ℕ, ◌-◌, ◌+◌, ◌==◌, List, [], ◌∷◌, ◌++◌, length, map, filter, max, Option, Some, None}
use Rattle.std.specs.Prelude.{Bool, true, false, if◌then◌else◌, slice_index_or, remove, option_map}
use Rattle.std.specs.List.{flat_map, slice_split, join_with_byte}
use Rattle.std.specs.Str.{byte}
use Rattle.ptlangs.specs.Jobs.{Join}
use Rattle.ptlangs.specs.declared.outlist.OutField.{OutField}
use Rattle.ptlines.specs.Engines.{EngineSpec}
use Rattle.ptlines.specs.Received.{Received, known_lines}
use Rattle.ptlines.specs.Slots.{total_bytes}
use Rattle.ptlines.specs.Text.{is_blank, lines, unlines}
use Rattle.ptmerge.specs.MergeSpec.{Lines, MergeDisorder, disordered_line, lines_with_key, merged, merged_so_far}
use Rattle.ptmerge.specs.MergeSpec.{reported_disorder, two_lines_of_each}
use Rattle.ptmerge.specs.Orders.{Key, line_cmp}
use Rattle.ptmerge.specs.declared.key_order.Side.{Side}
use Rattle.ptmerge.specs.declared.key_order.Side.TheVariants.{First, Second}
use Rattle.ptlangs.specs.declared.outlist.File.TheVariants as files
use Rattle.ptlangs.specs.declared.outlist.OutField.TheVariants as items

-- ---- fields

-- The list is not empty.
abbrev pub is_nonempty : List ℕ → Bool
is_nonempty [] = false
is_nonempty (x ∷ xs) = true

-- The fields of a line: with a separator, the strings between separators; without, the longest strings without blanks.
abbrev pub join_fields : Option ℕ → List ℕ → Lines
join_fields (Some c) line = slice_split (λ b. b == c) line
join_fields None line = filter is_nonempty (slice_split is_blank line)

-- The field with this number, counted from 1, or no bytes if there is none.
abbrev pub nth_field : ℕ → Lines → List ℕ
nth_field n fs = slice_index_or fs (n - 1) []

-- All fields except the one with this number.
abbrev pub other_fields : ℕ → Lines → Lines
other_fields n fs = remove fs (n - 1)

-- The key of a line: its field with this number.
abbrev pub field_key : Option ℕ → ℕ → Key
field_key separator n line = nth_field n (join_fields separator line)

-- ---- output lines

-- The byte between two fields of the output.
abbrev pub output_separator : Option ℕ → ℕ
output_separator (Some c) = c
output_separator None = byte " "

-- A field, or the string of `-e` if the field is empty.
abbrev pub or_filler : List ℕ → List ℕ → List ℕ
or_filler empty field = if is_nonempty field then field else empty

-- The field that an item of the output list names, of the join field `k` and the fields of the two lines.
abbrev pub field_named : OutField → List ℕ → Lines → Lines → List ℕ
field_named items.Join k fs1 fs2 = k
field_named (items.Field files.First n) k fs1 fs2 = nth_field n fs1
field_named (items.Field files.Second n) k fs1 fs2 = nth_field n fs2

-- The fields of an output line, by the output list of `-o` or else the join field and the other fields of both lines.
abbrev pub output_fields : Join → List ℕ → Lines → Lines → Option (List OutField) → Lines
output_fields job k fs1 fs2 None = k ∷ other_fields job.field1 fs1 ++ other_fields job.field2 fs2
output_fields job k fs1 fs2 (Some items) = map (λ i. or_filler job.empty (field_named i k fs1 fs2)) items

-- An output line, without its terminator, of the join field `k` and the fields of the two lines.
abbrev pub entry : Join → List ℕ → Lines → Lines → List ℕ
entry job k fs1 fs2 = join_with_byte (output_separator job.separator) (output_fields job k fs1 fs2 job.list)

-- An output line for each pair of lines, ordered by the first file's line and then by the second one's.
abbrev pub pair_entries : Join → List ℕ → Lines → Lines → Lines
pair_entries job k g1 g2 =
    if job.pairs
    then flat_map (λ a. map (λ b. entry job k (join_fields job.separator a) (join_fields job.separator b)) g2) g1
    else []

-- The output lines of unpaired lines of the first file, if the options ask for them.
abbrev pub unpaired_entries1 : Join → List ℕ → Lines → Lines
unpaired_entries1 job k g = if job.unpaired1 then map (λ a. entry job k (join_fields job.separator a) []) g else []

-- The output lines of unpaired lines of the second file, if the options ask for them.
abbrev pub unpaired_entries2 : Join → List ℕ → Lines → Lines
unpaired_entries2 job k g = if job.unpaired2 then map (λ b. entry job k [] (join_fields job.separator b)) g else []

-- The output lines for the lines `g1` and `g2` with the key `k` in the two files.
abbrev pub join_entries : Join → List ℕ → Lines → Lines → Lines
join_entries job k [] g2 = unpaired_entries2 job k g2
join_entries job k (a ∷ g1) [] = unpaired_entries1 job k (a ∷ g1)
join_entries job k (a ∷ g1) (b ∷ g2) = pair_entries job k (a ∷ g1) (b ∷ g2)

-- ---- the output

-- The join field of a line of the first file.
abbrev pub join_key1 : Join → Key
join_key1 job = field_key job.separator job.field1

-- The join field of a line of the second file.
abbrev pub join_key2 : Join → Key
join_key2 job = field_key job.separator job.field2

-- The output of `join` for two texts: for each join field that a line of one of them has, once and in order, the output
-- lines for the lines that have it (`join_entries`). If a text is not sorted, it ends where that shows (`merged`).
abbrev pub join_output : Join → List ℕ → List ℕ → List ℕ
join_output job first second =
    unlines job.terminator (merged (line_cmp job.descending) (join_key1 job) (join_key2 job) (join_entries job)
    (lines job.terminator first) (lines job.terminator second))

-- The output that is decided by what was received of both.
abbrev pub join_decided : Join → Received → Received → List ℕ
join_decided job first second =
    unlines job.terminator (merged_so_far (line_cmp job.descending) (join_key1 job) (join_key2 job) (join_entries job)
    first.eof (known_lines job.terminator first) second.eof (known_lines job.terminator second))

-- The disorder that is reported for two texts, if one of them is not sorted.
abbrev pub join_disorder : Join → List ℕ → List ℕ → Option MergeDisorder
join_disorder job first second = reported_disorder (line_cmp job.descending) (join_key1 job) (join_key2 job)
    (lines job.terminator first) (lines job.terminator second)

-- ---- the engine

-- The maximum of a measure over the groups of lines with one key.
abbrev pub max_over_keys : (Lines → ℕ) → Key → Lines → Lines → ℕ
max_over_keys measure key ls [] = 0
max_over_keys measure key ls (x ∷ xs) = max (measure (lines_with_key key ls (key x))) (max_over_keys measure key ls xs)

-- The most bytes that the lines of one key have.
abbrev pub max_group_bytes : Key → Lines → ℕ
max_group_bytes key ls = max_over_keys total_bytes key ls ls

-- The most lines that have one key.
abbrev pub max_group_lines : Key → Lines → ℕ
max_group_lines key ls = max_over_keys length key ls ls

-- `join` as an engine. It stores at most two lines of each input and, if pairs are written, the second input's lines of
-- one key.
abbrev pub join_engine : Join → EngineSpec Side
join_engine job = record {
  text = λ texts. join_output job (texts First) (texts Second);
  decided = λ given. join_decided job (given First) (given Second);
  disorder = λ texts. option_map disordered_line (join_disorder job (texts First) (texts Second));
  size = λ texts. two_lines_of_each job.terminator (texts First) (texts Second)
      + (if job.pairs then max_group_bytes (join_key2 job) (lines job.terminator (texts Second)) else 0);
  slots = λ texts. 4
      + (if job.pairs then max_group_lines (join_key2 job) (lines job.terminator (texts Second)) else 0);
  first_slots = 4;
  keeps_groups = job.pairs;
  terminator = job.terminator;
  keeps_terminator = false;
}
