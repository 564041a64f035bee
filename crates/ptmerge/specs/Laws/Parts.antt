-- The laws by which two inputs may be split into parts: at the same key, or by a function of the key.
use Rattle.std.specs.Prelude.{◌≡◌, ℕ, ◌<◌, ◌==◌, List, ◌++◌, None, filter}
use Rattle.std.specs.List.{AllByRecursion, flat_map, range_with_len}
use Rattle.std.specs.List.Sorted.{IsPermutation}
use Rattle.std.specs.declared.cmp.Ordering.TheVariants.{Less}
use Rattle.ptlangs.specs.Jobs.{Comm, Join}
use Rattle.ptlines.specs.ByteOrder.{Cmp}
use Rattle.ptlines.specs.Laws.Parts.{HasOnlyCompleteLines}
use Rattle.ptlines.specs.Text.{lines, unlines}
use Rattle.ptmerge.specs.Calls.Comm.{comm_tool}
use Rattle.ptmerge.specs.Calls.Join.{join_tool}
use Rattle.ptmerge.specs.MergeSpec.{Lines}
use Rattle.ptmerge.specs.Calls.MergeSpec.{MergeTool, disorder, keys, lines_of, merge_output}
use Rattle.ptmerge.specs.declared.key_order.Side.{Side}

-- Both texts are sorted.
abbrev pub AreInputsSorted : MergeTool → (Side → List ℕ) → Type 0
AreInputsSorted tool inputs = disorder tool (lines_of tool inputs) ≡ None

-- ---- parts split at the same key

-- Each key of the first list is less than each key of the second.
abbrev pub AllKeysBelow : Cmp → Lines → Lines → Type 0
AllKeysBelow cmp ks ls = AllByRecursion (λ k. AllByRecursion (λ l. cmp k l ≡ Less) ls) ks

-- Two inputs, each split into a first and a second part at the same key: the first parts consist of complete lines and
-- are sorted, and each of their keys is less than each key of the second parts.
pub record AreSplitByKey (tool : MergeTool) (first second : Side → List ℕ) : Type 0 where
  pub whole : (side : Side) → HasOnlyCompleteLines tool.terminator (first side)
  pub in_order : AreInputsSorted tool first
  pub below : AllKeysBelow tool.cmp (keys tool (lines_of tool first)) (keys tool (lines_of tool second))

-- The output for two inputs is the output for their first parts followed by the output for their second parts.
abbrev pub IsConcatOfParts : MergeTool → Type 0
IsConcatOfParts tool = (first second : Side → List ℕ) → AreSplitByKey tool first second
    → merge_output tool (λ side. first side ++ second side) ≡ merge_output tool first ++ merge_output tool second

-- The law for `comm`.
abbrev pub CommOfParts : Type 0
CommOfParts = (job : Comm) → IsConcatOfParts (comm_tool job)

-- The law for `join`.
abbrev pub JoinOfParts : Type 0
JoinOfParts = (job : Join) → IsConcatOfParts (join_tool job)

-- ---- parts distributed by key

-- The lines of each text whose keys belong to the part `i`.
abbrev pub text_of_part : MergeTool → (List ℕ → ℕ) → (Side → List ℕ) → ℕ → Side → List ℕ
text_of_part tool part_of inputs i side =
    unlines tool.terminator (filter (λ line. part_of (tool.key side line) == i) (lines_of tool inputs side))

-- The output for two texts, as lines.
abbrev pub output_lines : MergeTool → (Side → List ℕ) → Lines
output_lines tool inputs = lines tool.terminator (merge_output tool inputs)

-- If the lines of two sorted inputs are distributed over parts by a function of their keys, the output lines for the
-- parts together are the output lines for the inputs, in some order.
abbrev pub IsSplittableByKey : MergeTool → Type 0
IsSplittableByKey tool = (inputs : Side → List ℕ) (part_of : List ℕ → ℕ) (parts : ℕ) → AreInputsSorted tool inputs
    → ((key : List ℕ) → part_of key < parts)
    → IsPermutation (output_lines tool inputs) (flat_map (λ i. output_lines tool (text_of_part tool part_of inputs i))
    (range_with_len 0 parts))

-- The law for `comm`.
abbrev pub CommByKey : Type 0
CommByKey = (job : Comm) → IsSplittableByKey (comm_tool job)

-- The law for `join`.
abbrev pub JoinByKey : Type 0
JoinByKey = (job : Join) → IsSplittableByKey (join_tool job)
