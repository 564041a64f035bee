-- The sink has taken the parts so far.
use Rattle.ptrun.proofs
use proofs.Common.{WriteOutOk, flat_map, take, texts}
use proofs.messages.say_in_parts.Given as goal

abbrev pub invariant-loop-part : goal.invariant-loop-part
invariant-loop-part g l = WriteOutOk (g.E.Sink.state l.fn.messages) (g.E.Sink.state l.messages)
    (flat_map (λ p. p) (take l.part-index (texts l.parts)))
