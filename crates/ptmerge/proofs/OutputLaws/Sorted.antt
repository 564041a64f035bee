-- The output of sorted texts is the entries of all keys.
use Rattle.ptmerge.proofs
use Rattle.ptmerge.specs
use Rattle.std.proofs.lemmas.List.{map-id}
use proofs.Common.{lines}
use specs.Calls.Comm.{comm_tool}
use specs.Calls.Join.{join_tool}
use specs.Calls.Sides.{both}
use specs.Laws.Outputs.{CommOfSorted, JoinOfSorted}
use proofs.MergeLemmas.Exits.Invariant.{ap, ◌∙◌, ◌++◌, flat_map, unlines, entries_of_key, distinct_keys, line_order}
use proofs.OutputLaws.Counts.{in_order}

pub comm_of_sorted : CommOfSorted
comm_of_sorted job first second e =
    let tool = comm_tool job in
    let a = lines job.terminator first in
    let b = lines job.terminator second in
    ap (unlines job.terminator) (in_order tool (line_order job.descending) (both a b) e
    ∙ (λ i. flat_map (entries_of_key tool (both a b)) (distinct_keys tool.cmp (map-id a i ++ map-id b i))))

pub join_of_sorted : JoinOfSorted
join_of_sorted job first second e = ap (unlines job.terminator) (in_order (join_tool job) (line_order job.descending)
    (both (lines job.terminator first) (lines job.terminator second)) e)
