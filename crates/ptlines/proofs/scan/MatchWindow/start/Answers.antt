-- No byte is in the window.
use Rattle.ptlines.proofs
use proofs.Common.{arith, refl}
use proofs.scan.MatchWindow.start.Goals as goal

pub returns-clause-window : goal.returns-clause-window
returns-clause-window c test bytes = record {
  order = omega arith;
  within = omega arith;
  few = omega arith;
  is = refl;
}
