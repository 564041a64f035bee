-- One more image is stored.
use Rattle.ptflow.proofs
use proofs.Common.{usual}
use proofs.simd.shift.map_bytes.Goals as goal

pub loop-at-preserved : goal.loop-at-preserved
loop-at-preserved = grind usual
