-- Each of the operands so far that could not be opened was reported, in order.
use Rattle.ptrun.proofs
use proofs.Common.{AreSoundAt, HasSaid, is_reader_unopened, list_any, positions, take, unopened_messages, words_view}
use proofs.Common.{◌≡◌}
use proofs.driver.report_unopened.Given as goal

abbrev pub invariant-loop-input : goal.invariant-loop-input
invariant-loop-input g l = record {
  message : HasSaid l.fn.messages l.messages
      (unopened_messages l.name (words_view l.names) (is_reader_unopened l.inputs)
      (take l.input-index (positions l.order)));
  any_is : l.any ≡ list_any (is_reader_unopened l.inputs) (take l.input-index (positions l.order));
  sound : AreSoundAt (take l.input-index (positions l.order)) l.inputs;
}
