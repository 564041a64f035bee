-- The words so far were written, each after a space.
use Rattle.ptmerge.proofs
use proofs.Common.{None, option_copied, length, remaining_fields, with_prefix}
use proofs.JoinLemmas.Fields.{PartialWrite}
use proofs.tools.join.output.write_words.Given as goal

abbrev pub invariant-words : goal.invariant-words
invariant-words g l = PartialWrite l.fn.out l.out (with_prefix 32 (remaining_fields None (option_copied l.line)))
    (with_prefix 32 (remaining_fields None (option_copied l.left)))

abbrev pub decreases-words : goal.decreases-words
decreases-words g l = length (remaining_fields None (option_copied l.left))
