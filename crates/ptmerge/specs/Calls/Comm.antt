-- `comm` as a merge, in any order of its lines.
use Rattle.std.specs.Prelude.{◌+◌, ◌*◌, length, false}
use Rattle.ptlines.specs.ByteOrder.{Cmp}
use Rattle.ptlines.specs.Text.{max_length}
use Rattle.ptlangs.specs.Jobs.{Comm}
use Rattle.ptmerge.specs.Calls.MergeSpec.{MergeTool}
use Rattle.ptmerge.specs.Calls.Sides.{whole_line}
use Rattle.ptmerge.specs.Comm.{entries}
use Rattle.ptmerge.specs.Orders.{Key, line_cmp}
use Rattle.ptmerge.specs.declared.key_order.Side.{Side}
use Rattle.ptmerge.specs.declared.key_order.Side.TheVariants.{First, Second}

-- `comm` in an order `cmp` of keys. It stores at most two lines of each input.
abbrev pub comm_with : Comm → Cmp → (Side → Key) → MergeTool
comm_with job cmp key = record {
  terminator = job.terminator;
  cmp = cmp;
  key = key;
  entries = λ line g1 g2. entries job line (length g1) (length g2);
  size = λ ls. 2 * max_length (ls First) + 2 * max_length (ls Second);
  slots = λ ls. 4;
  keeps_groups = false;
}

-- `comm`: the keys are the whole lines, in byte order or its reverse.
abbrev pub comm_tool : Comm → MergeTool
comm_tool job = comm_with job (line_cmp job.descending) whole_line
