-- The readers that the first columns use have the terminator, and all others are as before.
use Rattle.ptflow.proofs
use proofs.Common.{take, terminator, SetTerminatorsPost}
use proofs.tools.paste.set_terminators.Given as goal

abbrev pub invariant-loop-input : goal.invariant-loop-input
invariant-loop-input g l = SetTerminatorsPost (terminator l.zero) (take l.input-index l.cells) l.fn.readers l.readers
