-- Laws of the output of `comm` and `join` for two lists of lines or two sorted texts, which a reader can judge without
-- computing it. Also the laws that the merge which each contract names is the engine of `comm` or `join`.
use Rattle.std.specs.Prelude.{◌≡◌, ℕ, ◌+◌, Bool, true, false, List, [], ◌++◌, length, map, filter, None, bytes_eq}
use Rattle.std.specs.Prelude.{sum_by, if◌then◌else◌}
use Rattle.std.specs.List.{flat_map}
use Rattle.ptlangs.specs.Jobs.{Comm, Join}
use Rattle.ptmerge.specs.declared.key_order.Side.TheVariants.{First, Second}
use Rattle.ptlines.specs.Text.{lines, unlines}
use Rattle.ptmerge.specs.Calls.Comm.{comm_tool}
use Rattle.ptmerge.specs.Comm.{comm_disorder, comm_engine, comm_output, entries, tab_if_shown}
use Rattle.ptmerge.specs.Calls.Join.{join_tool, join_key}
use Rattle.ptmerge.specs.Calls.MergeSpec.{disorder, merge_engine, merged_entries}
use Rattle.ptmerge.specs.Calls.Sides.{both}
use Rattle.ptmerge.specs.Join.{join_disorder, join_engine, join_entries, join_key1, join_key2, join_output}
use Rattle.ptmerge.specs.MergeSpec.{Lines, distinct_keys, lines_with_key}
use Rattle.ptmerge.specs.Orders.{line_cmp}

-- `comm` of sorted lines and themselves writes them in the third column.
abbrev pub CommOfItself : Type 0
CommOfItself = (job : Comm) (ls : Lines) → disorder (comm_tool job) (both ls ls) ≡ None
    → merged_entries (comm_tool job) (both ls ls)
    ≡ (if job.hide3 then [] else map (λ line. tab_if_shown job.hide1 ++ tab_if_shown job.hide2 ++ line) ls)

-- the options with these columns suppressed
abbrev pub columns : Comm → Bool → Bool → Bool → Comm
columns job hide1 hide2 hide3 = record job { hide1 = hide1; hide2 = hide2; hide3 = hide3 }

-- how often a line is in a list
abbrev pub occurrences : List ℕ → Lines → ℕ
occurrences line ls = length (filter (λ l. bytes_eq l line) ls)

-- Columns 1 and 3 have together the lines of the first input: `comm -23` and `comm -12` write each line as often as it
-- is there.
abbrev pub CommSharesFirst : Type 0
CommSharesFirst = (job : Comm) (a b : Lines) (line : List ℕ) → disorder (comm_tool job) (both a b) ≡ None
    → occurrences line (merged_entries (comm_tool (columns job false true true)) (both a b))
    + occurrences line (merged_entries (comm_tool (columns job true true false)) (both a b)) ≡ occurrences line a

-- `comm -13` is `comm -23` of the inputs in the other order, in order or not.
abbrev pub CommSwapped : Type 0
CommSwapped = (job : Comm) (a b : Lines) → merged_entries (comm_tool (columns job true false true)) (both a b)
    ≡ merged_entries (comm_tool (columns job false true true)) (both b a)

-- Without unpairable lines, `join` of sorted inputs writes a line for each pair of lines whose keys are equal.
abbrev pub JoinCounts : Type 0
JoinCounts = (job : Join) (a b : Lines) → job.pairs ≡ true → job.unpaired1 ≡ false → job.unpaired2 ≡ false
    → disorder (join_tool job) (both a b) ≡ None
    → length (merged_entries (join_tool job) (both a b))
    ≡ sum_by (λ line. length (lines_with_key (join_key job Second) b (join_key job First line))) a

-- ---- sorted texts

-- Of sorted texts `comm` writes, for each distinct line of both in order, its columns, by how often each text has it.
abbrev pub CommOfSorted : Type 0
CommOfSorted = (job : Comm) (first second : List ℕ) → comm_disorder job first second ≡ None
    → let a = lines job.terminator first in
    let b = lines job.terminator second in
    comm_output job first second
    ≡ unlines job.terminator (flat_map (λ line. entries job line (occurrences line a) (occurrences line b))
    (distinct_keys (line_cmp job.descending) (a ++ b)))

-- Of sorted texts `join` writes, for each distinct join field of both in order, the output lines for the lines that
-- have it.
abbrev pub JoinOfSorted : Type 0
JoinOfSorted = (job : Join) (first second : List ℕ) → join_disorder job first second ≡ None
    → let a = lines job.terminator first in
    let b = lines job.terminator second in
    join_output job first second
    ≡ unlines job.terminator (flat_map
    (λ k. join_entries job k (lines_with_key (join_key1 job) a k) (lines_with_key (join_key2 job) b k))
    (distinct_keys (line_cmp job.descending) (map (join_key1 job) a ++ map (join_key2 job) b)))

-- ---- the records that contracts of calls name

-- The engine of `comm`, and that of the merge by whole lines.
abbrev pub CommIsMerge : Type 0
CommIsMerge = (job : Comm) → merge_engine (comm_tool job) ≡ comm_engine job

-- The engine of `join`, and that of the merge by join fields.
abbrev pub JoinIsMerge : Type 0
JoinIsMerge = (job : Join) → merge_engine (join_tool job) ≡ join_engine job
