-- The positions of the operands so far, in order.
use Rattle.ptrun.proofs
use proofs.Common.{positions, take, ◌≡◌}
use proofs.operands.positions_of.Given as goal

abbrev pub invariant-loop-input : goal.invariant-loop-input
invariant-loop-input l = l.operands.items ≡ take l.input-index (positions l.order)
