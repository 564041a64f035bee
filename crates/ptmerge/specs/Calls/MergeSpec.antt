-- A tool that merges two inputs, as a record: its output, the first line that is not in order, and the output that is
-- decided by what was received. The laws say that it is that of `comm_engine` and `join_engine`.
use Rattle.std.specs.Prelude.{ℕ, ◌&&◌, List, ◌++◌, map, filter, Option, Some, None, Bool, false, option_map}
use Rattle.std.specs.List.{flat_map}
use Rattle.ptlines.specs.ByteOrder.{Cmp}
use Rattle.ptlines.specs.Engines.{EngineSpec}
use Rattle.ptlines.specs.Received.{Received, known_lines}
use Rattle.ptlines.specs.Text.{lines, unlines}
use Rattle.ptmerge.specs.MergeSpec.{Lines, MergeDisorder, distinct_keys, disordered_line, earlier_disorder}
use Rattle.ptmerge.specs.MergeSpec.{first_disorder, is_past, is_up_to, lines_with_key, sorted_prefix}
use Rattle.ptmerge.specs.Orders.{Key}
use Rattle.ptmerge.specs.declared.key_order.Side.{Side}
use Rattle.ptmerge.specs.declared.key_order.Side.TheVariants.{First, Second}

-- A tool that merges two inputs by the keys of their lines.
pub record MergeTool : Type 0 where
  -- the line terminator
  pub terminator : ℕ
  -- the order of keys
  pub cmp : Cmp
  -- the key of a line, for each input
  pub key : Side → Key
  -- the output lines for a key, given the lines with this key in the two inputs
  pub entries : List ℕ → Lines → Lines → Lines
  -- the most bytes of these lines that are stored at the same time
  pub size : (Side → Lines) → ℕ
  -- the most slots that are used for them
  pub slots : (Side → Lines) → ℕ
  -- whether lines of one key are kept until their output is written
  pub keeps_groups : Bool

-- The keys of the lines of both lists.
abbrev pub keys : MergeTool → (Side → Lines) → Lines
keys tool ls = map (tool.key First) (ls First) ++ map (tool.key Second) (ls Second)

-- The output lines for one key.
abbrev pub entries_of_key : MergeTool → (Side → Lines) → List ℕ → Lines
entries_of_key tool ls k =
    tool.entries k (lines_with_key (tool.key First) (ls First) k) (lines_with_key (tool.key Second) (ls Second) k)

-- The output lines for each distinct key that is `wanted`, in the order of the keys.
abbrev pub entries_by_key : MergeTool → (List ℕ → Bool) → (Side → Lines) → Lines
entries_by_key tool wanted ls =
    flat_map (entries_of_key tool ls) (filter wanted (distinct_keys tool.cmp (keys tool ls)))

-- ---- the output

-- The disorder that is reported for two lists, if one of them is not sorted.
abbrev pub disorder : MergeTool → (Side → Lines) → Option MergeDisorder
disorder tool ls =
    earlier_disorder tool.cmp (first_disorder tool.cmp (tool.key First) (ls First))
    (first_disorder tool.cmp (tool.key Second) (ls Second))

-- The longest prefix of each list that is in order.
abbrev pub sorted_prefixes : MergeTool → (Side → Lines) → Side → Lines
sorted_prefixes tool ls side = sorted_prefix tool.cmp (tool.key side) (ls side)

-- The output lines for two lists: all lines, or those up to the last key before the reported disorder.
abbrev pub merged_entries : MergeTool → (Side → Lines) → Lines
merged_entries tool ls = entries_by_key tool (is_up_to tool.cmp (disorder tool ls)) (sorted_prefixes tool ls)

-- The lines of two texts.
abbrev pub lines_of : MergeTool → (Side → List ℕ) → Side → Lines
lines_of tool inputs side = lines tool.terminator (inputs side)

-- The output for two texts.
abbrev pub merge_output : MergeTool → (Side → List ℕ) → List ℕ
merge_output tool inputs = unlines tool.terminator (merged_entries tool (lines_of tool inputs))

-- The output for the key is decided: no further line of either input can change it.
abbrev pub is_decided : MergeTool → (Side → Bool) → (Side → Lines) → List ℕ → Bool
is_decided tool eof ls k =
    is_up_to tool.cmp (disorder tool ls) k && is_past tool.cmp (tool.key First) (eof First) (ls First) k
    && is_past tool.cmp (tool.key Second) (eof Second) (ls Second) k

-- The output lines that are decided by the complete lines received so far.
abbrev pub decided_entries : MergeTool → (Side → Bool) → (Side → Lines) → Lines
decided_entries tool eof ls = entries_by_key tool (is_decided tool eof ls) (sorted_prefixes tool ls)

-- The output that is decided by the bytes received so far.
abbrev pub decided_output : MergeTool → (Side → Received) → List ℕ
decided_output tool given = unlines tool.terminator (decided_entries tool (λ side. (given side).eof)
    (λ side. known_lines tool.terminator (given side)))

-- A disorder is decided once the output up to its last key is.
abbrev pub lines_decide_disorder : MergeTool → (Side → Bool) → (Side → Lines) → Option MergeDisorder → Bool
lines_decide_disorder tool eof ls None = false
lines_decide_disorder tool eof ls (Some d) = is_decided tool eof ls d.first_disorder.last_key

-- The bytes received so far decide a disorder, so that the merge can stop.
abbrev pub disorder_is_decided : MergeTool → (Side → Received) → Bool
disorder_is_decided tool given =
    let ls : Side → Lines = λ side. known_lines tool.terminator (given side) in
    lines_decide_disorder tool (λ side. (given side).eof) ls (disorder tool ls)

-- The engine of a tool that merges two inputs.
abbrev pub merge_engine : MergeTool → EngineSpec Side
merge_engine tool = record {
  text = merge_output tool;
  decided = decided_output tool;
  disorder = λ texts. option_map disordered_line (disorder tool (lines_of tool texts));
  size = λ texts. tool.size (lines_of tool texts);
  slots = λ texts. tool.slots (lines_of tool texts);
  first_slots = 4;
  keeps_groups = tool.keeps_groups;
  terminator = tool.terminator;
  keeps_terminator = false;
}
