-- The line contains the parts so far.
use Rattle.ptrun.proofs
use proofs.Common.{◌≡◌}
use proofs.MessageWrites.{joined}
use proofs.messages.line_of.Given as goal

abbrev pub invariant-loop-part : goal.invariant-loop-part
invariant-loop-part l = l.line.items ≡ joined l.parts l.part-index
