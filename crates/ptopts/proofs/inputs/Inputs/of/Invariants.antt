-- The loop of `Inputs::of`: the inputs and the file names so far, with those of the remaining operands, are those
-- of all operands.
use Rattle.ptopts.proofs
use proofs.Common.{drop, file_names, order_from, vec_len, words_view, ◌++◌, ◌≡◌}
use proofs.inputs.Inputs.of.Given as goal

abbrev pub invariant-loop-operand : goal.invariant-loop-operand
invariant-loop-operand g l = record {
  order : order_from 0 (words_view l.operands)
      ≡ l.order.items ++ order_from (vec_len l.names) (words_view (drop l.operand-index l.operands));
  names : file_names (words_view l.operands) ≡ words_view l.names.items
      ++ file_names (words_view (drop l.operand-index l.operands));
}
