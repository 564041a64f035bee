-- The function does nothing. The theorem that its contract states is proved in `Silence`.
use Rattle.ptrun.proofs
use proofs.Silence.{silent_if_zero}
use proofs.laws.silent_if_zero.Goals as goal

pub returns : goal.returns
returns c = silent_if_zero
