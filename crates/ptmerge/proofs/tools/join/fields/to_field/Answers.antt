-- The field after the n-th separator, the first field, or none.
use Rattle.ptmerge.proofs
use Rattle.ptlines.proofs.MatchWindows.{few_from_start, nth_from_start}
use Rattle.std.proofs.Common.{arith}
use proofs.JoinLemmas.FieldMasks.{fields_after_nth, no_field_after}
use proofs.tools.join.fields.to_field.Goals as goal

pub returns-clause-none : goal.returns-clause-none
returns-clause-none c past =
    no_field_after c.args.separator c.args.number c.args.line.now (omega arith)
    (few_from_start _ _ (omega arith) c.requires.start c.after_nth.ensures past)

pub returns-clause-field : goal.returns-clause-field
returns-clause-field c within =
    fields_after_nth _ _ _ _ (omega arith) c.after_nth.ensures.some
    (nth_from_start _ _ (omega arith) c.requires.start c.after_nth.ensures within)
