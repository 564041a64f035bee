-- The words so far were written, except the join field, which is skipped.
use Rattle.ptmerge.proofs
use proofs.Common.{◌-◌, None, Some, option_copied, remove, other_fields, remaining_fields, with_prefix}
use proofs.JoinLemmas.Fields.{PartialWrite}
use proofs.tools.join.output.write_other_words.Given as goal

abbrev pub invariant-loop-passed : goal.invariant-loop-passed
invariant-loop-passed g l =
    PartialWrite l.fn.out l.out (with_prefix 32 (other_fields l.number (remaining_fields None (Some l.line))))
    (with_prefix 32 (remove (remaining_fields None (option_copied l.left)) ((l.number - 1) - l._passed)))
