-- `count` of the flags so far are set, and `last` is the index of the last of them.
use Rattle.ptflow.proofs
use proofs.TrLemmas.FilterSet.{IsCounted}
use proofs.tools.tr.FilterSet.of.Given as goal

abbrev pub invariant-loop-byte : goal.invariant-loop-byte
invariant-loop-byte l = IsCounted l.count l.last l.byte l.flags
