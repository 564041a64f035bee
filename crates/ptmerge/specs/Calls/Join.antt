-- The join field of a line, as its key; and `join` as a merge, in any order of its join fields.
use Rattle.std.specs.Prelude.{ℕ, ◌+◌, ◌*◌, Option, if◌then◌else◌}
use Rattle.ptlines.specs.ByteOrder.{Cmp}
use Rattle.ptlines.specs.Text.{max_length}
use Rattle.ptlangs.specs.Jobs.{Join}
use Rattle.ptmerge.specs.Calls.MergeSpec.{MergeTool}
use Rattle.ptmerge.specs.Calls.Sides.{both}
use Rattle.ptmerge.specs.Join.{join_entries, join_fields, max_group_bytes, max_group_lines, nth_field}
use Rattle.ptmerge.specs.Orders.{Key, line_cmp}
use Rattle.ptmerge.specs.declared.key_order.Side.{Side}
use Rattle.ptmerge.specs.declared.key_order.Side.TheVariants.{First, Second}

-- The key of a line by a field number for each file: its field with this number.
abbrev pub field_keys : Option ℕ → ℕ → ℕ → Side → Key
field_keys separator n1 n2 side line = nth_field (both n1 n2 side) (join_fields separator line)

-- The join field of a line.
abbrev pub join_key : Join → Side → Key
join_key job = field_keys job.separator job.field1 job.field2

-- `join` in an order `cmp` of keys. It stores at most two lines of each input and, if pairs are written, the second
-- input's lines of one key.
abbrev pub join_with : Join → Cmp → (Side → Key) → MergeTool
join_with job cmp key = record {
  terminator = job.terminator;
  cmp = cmp;
  key = key;
  entries = join_entries job;
  size = λ ls. 2 * max_length (ls First) + 2 * max_length (ls Second)
      + (if job.pairs then max_group_bytes (key Second) (ls Second) else 0);
  slots = λ ls. 4 + (if job.pairs then max_group_lines (key Second) (ls Second) else 0);
  keeps_groups = job.pairs;
}

-- `join`: the keys are the join fields, in byte order or its reverse.
abbrev pub join_tool : Join → MergeTool
join_tool job = join_with job (line_cmp job.descending) (join_key job)
