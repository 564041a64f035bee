-- `comm` as a merge: each line is its own key.
use Rattle.std.specs.Prelude.{ℕ, ◌-◌, List, [], ◌++◌, length, min}
use Rattle.ptlangs.specs.Jobs.{Comm}
use Rattle.ptmerge.specs.Comm.{column_entries, tab_if_shown}
use Rattle.ptmerge.specs.MergeSpec.{Lines}
use Rattle.ptmerge.specs.Orders.{line_cmp}
use Rattle.ptrun.specs.Merges.{Merge}

-- The output lines for a line, given its occurrences in both inputs: common lines as often as both have it, and then
-- the surplus of one input in the column of this input.
abbrev pub comm_entries : Comm → List ℕ → Lines → Lines → Lines
comm_entries job line ls1 ls2 =
    column_entries job.hide3 (tab_if_shown job.hide1 ++ tab_if_shown job.hide2) (min (length ls1) (length ls2)) line
    ++ column_entries job.hide1 [] (length ls1 - length ls2) line
    ++ column_entries job.hide2 (tab_if_shown job.hide1) (length ls2 - length ls1) line

abbrev pub comm : Comm → Merge
comm job =
    record { end = job.terminator; cmp = line_cmp job.descending; key = λ side line. line; entries = comm_entries job }
