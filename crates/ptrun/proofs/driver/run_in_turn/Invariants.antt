-- The operands so far were processed, or reported if they could not be opened.
use Rattle.ptrun.proofs
use proofs.Common.{positions, take, words_view}
use proofs.Sequential.{OperandsDone}
use proofs.driver.run_in_turn.Given as goal

abbrev pub invariant-loop-input : goal.invariant-loop-input
invariant-loop-input g l =
    OperandsDone l.name (g.T.Sequential.tool l.tool) (words_view l.names)
    l.fn.inputs l.inputs l.fn.out l.out l.fn.messages l.messages l.fn.store l.store
    (take l.input-index (positions l.order)) l.done
