-- Answers for `Delims::read`: the loop starts with no delimiter, each turn keeps one more, and the rest gets
-- shorter.
use Rattle.ptlangs.proofs
use proofs.Common.{arith, rules}
use proofs.ListElements.{append_ok-cons_ok, append_ok-nil}
use proofs.delims.Delims.read.Goals as goal

pub loop-kept-preserved : goal.loop-kept-preserved
loop-kept-preserved g c = search (rules, append_ok-cons_ok)

pub loop-kept-init : goal.loop-kept-init
loop-kept-init g c = rw c.new-kept.ensures.items (append_ok-nil _)

pub loop-kept-smaller : goal.loop-kept-smaller
loop-kept-smaller g c = grind arith
