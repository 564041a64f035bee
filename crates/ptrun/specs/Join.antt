-- `join` as a merge by the join fields of lines, and its output lines.
use Rattle.std.specs.Prelude.{ℕ, ◌-◌, ◌==◌, List, [], ◌∷◌, ◌++◌, map, filter, not, Option, Some, None}
use Rattle.std.specs.Prelude.{if◌then◌else◌, unwrap_or, remove}
use Rattle.std.specs.List.{flat_map, slice_split, join_with_byte}
use Rattle.ptlines.specs.Text.{is_blank}
use Rattle.ptlangs.specs.Jobs.{Join}
use Rattle.ptlangs.specs.Numbers.{is_empty}
use Rattle.ptlangs.specs.declared.outlist.OutField.{OutField}
use Rattle.ptmerge.specs.Join.{field_named, nth_field}
use Rattle.ptmerge.specs.MergeSpec.{Lines, lines_with_key}
use Rattle.ptmerge.specs.Orders.{Key, line_cmp}
use Rattle.ptmerge.specs.declared.key_order.Side.{Side}
use Rattle.ptmerge.specs.declared.key_order.Side.TheVariants.{First, Second}
use Rattle.ptrun.specs.Lines.{maximum}
use Rattle.ptrun.specs.Merges.{Merge}

-- The fields of a line: with a separator, the strings between separators; without, the longest strings without blanks.
abbrev pub join_fields : Option ℕ → List ℕ → Lines
join_fields (Some c) line = slice_split (λ b. b == c) line
join_fields None line = filter (λ field. not (is_empty field)) (slice_split is_blank line)

-- The key of a line: its join field.
abbrev pub join_key : Join → Side → Key
join_key job First line = nth_field job.field1 (join_fields job.separator line)
join_key job Second line = nth_field job.field2 (join_fields job.separator line)

-- The fields of an output line, of the join field `k` and the fields of the two lines: those of the output list of
-- `-o`, where an empty field is the string of `-e`, or else the join field and the other fields of both lines.
abbrev pub output_fields : Join → List ℕ → Lines → Lines → Option (List OutField) → Lines
output_fields job k fs1 fs2 None = k ∷ remove fs1 (job.field1 - 1) ++ remove fs2 (job.field2 - 1)
output_fields job k fs1 fs2 (Some items) =
    map (λ i. let field = field_named i k fs1 fs2 in if is_empty field then job.empty else field) items

-- An output line. A space is between fields, if there is no separator.
abbrev pub entry : Join → List ℕ → Lines → Lines → List ℕ
entry job k fs1 fs2 = join_with_byte (unwrap_or job.separator 32) (output_fields job k fs1 fs2 job.list)

-- The output lines for the lines with the key `k` in both inputs: one for each line, if the other input has none and the
-- options ask for it; or else one for each pair, ordered by the first line and then by the second.
abbrev pub join_entries : Join → List ℕ → Lines → Lines → Lines
join_entries job k [] ls2 = if job.unpaired2 then map (λ b. entry job k [] (join_fields job.separator b)) ls2 else []
join_entries job k ls1 [] = if job.unpaired1 then map (λ a. entry job k (join_fields job.separator a) []) ls1 else []
join_entries job k ls1 ls2 = let fields = join_fields job.separator in
    if job.pairs then flat_map (λ a. map (λ b. entry job k (fields a) (fields b)) ls2) ls1 else []

abbrev pub join : Join → Merge
join job =
    record { end = job.terminator; cmp = line_cmp job.descending; key = join_key job; entries = join_entries job }

-- The most that the lines of one key measure.
abbrev pub max_group : (Lines → ℕ) → Key → Lines → ℕ
max_group measure key ls = maximum (map (λ line. measure (lines_with_key key ls (key line))) ls)
