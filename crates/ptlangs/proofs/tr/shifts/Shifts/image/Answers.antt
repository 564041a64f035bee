-- Answers for `Shifts::image`: each stretch adds its shift if it contains the byte. The order of the stretches,
-- which the code has reversed, does not change the sum.
use Rattle.ptlangs.proofs
use proofs.Common.{usual}
use proofs.TrShifts.{moved_reversed}
use proofs.tr.shifts.Shifts.image.Goals as goal

pub returns : goal.returns
returns c = grind (usual, moved_reversed)

pub loop-stretch-preserved : goal.loop-stretch-preserved
loop-stretch-preserved c = grind usual
