-- The rest of the line has the words after the skipped ones, which are words of the line.
use Rattle.ptmerge.proofs
use proofs.Common.{◌≡◌, drop, None, Some, option_copied, remaining_fields}
use proofs.JoinLemmas.Fields.{AreFieldsOf}
use proofs.tools.join.fields.find_word_long.Given as goal

abbrev pub invariant-loop-passed : goal.invariant-loop-passed
invariant-loop-passed l = record {
  passed : drop l._passed (remaining_fields None (Some l.line)) ≡ remaining_fields None (option_copied l.left);
  fields : AreFieldsOf None (Some l.line) (option_copied l.left);
}
