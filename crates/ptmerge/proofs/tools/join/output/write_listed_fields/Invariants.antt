-- The items so far, with separators between them, were written or are in the row.
use Rattle.ptmerge.proofs
use proofs.Common.{◌++◌, option_copied, map, length, join_job, output_separator, entry_with_list, with_prefix, Some}
use proofs.JoinLemmas.Fields.{PartialWrite, output_item}
use proofs.tools.join.output.write_listed_fields.Given as goal

abbrev pub invariant-items : goal.invariant-items
invariant-items g l =
    PartialWrite l.fn.out l.out (entry_with_list (join_job l.entry.job.now) (Some l.items) l.entry.key.now
    (option_copied l.entry.one) (option_copied l.entry.two))
    (l.row ++ with_prefix (output_separator (join_job l.entry.job.now).separator)
    (map (output_item (join_job l.entry.job.now) l.entry.key.now (option_copied l.entry.one)
    (option_copied l.entry.two)) l.rest))

abbrev pub decreases-items : goal.decreases-items
decreases-items g l = length l.rest
