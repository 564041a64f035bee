use Rattle.ptopts.proofs
use proofs.Common.{usual}
use proofs.inputs.Inputs.of.Goals as goal

pub returns : goal.returns
returns g c = grind usual

pub loop-operand-preserved : goal.loop-operand-preserved
loop-operand-preserved g c = grind usual
