-- The next word in the rest of the line is a word of the line, and the words after it are those of the rest.
use Rattle.ptmerge.proofs
use proofs.Common.{◌-◌, ◌≡◌, None, arith, option_copied, remaining_fields}
use proofs.JoinLemmas.Fields.{after_piece}
use proofs.tools.join.fields.find_word_long.Goals as goal

pub returns : goal.returns
returns c =
    let span = c.span_of_word.ensures.span in
    let passed : c.loop-passed._passed ≡ c.args.number - 1 = omega
    (arith, c.loop-passed-test.false, c.loop-passed.auto._passed-end, c.saturating_sub-passed-end.ensures) in
    let piece = c.loop-passed.invariant.fields _ _ c.in_ok-next_word.ensures.is_piece in
    record {
      more = remaining_fields None (option_copied c.in_ok-next_word.field-0.rest);
      is = rw (← passed, c.loop-passed.invariant.passed, span.bytes_are) c.in_ok-next_word.ensures.first;
      ordered = span.ordered;
      within = span.within;
      after = after_piece _ _ _ _ _ piece c.span_of_word.ensures.end;
    }

pub span_of_word-requires : goal.span_of_word-requires
span_of_word-requires c = c.loop-passed.invariant.fields _ _ c.in_ok-next_word.ensures.is_piece
