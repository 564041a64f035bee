-- Only blanks before a word are skipped, so the remaining words are unchanged.
use Rattle.ptmerge.proofs
use proofs.Common.{◌≡◌, None, option_copied, remaining_fields}
use proofs.JoinLemmas.Fields.{AreFieldsOf, remaining_length}
use proofs.tools.join.fields.next_word.Given as goal

abbrev pub invariant-pieces : goal.invariant-pieces
invariant-pieces l = record {
  same : remaining_fields None (option_copied l.left) ≡ remaining_fields None (option_copied l.fn.line);
  fields : AreFieldsOf None (option_copied l.fn.line) (option_copied l.left);
}

abbrev pub decreases-pieces : goal.decreases-pieces
decreases-pieces l = remaining_length (option_copied l.left)
