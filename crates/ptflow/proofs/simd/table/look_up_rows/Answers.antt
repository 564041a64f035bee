-- Each iteration looks up the bytes in one more row.
use Rattle.ptflow.proofs
use proofs.Common.{usual}
use proofs.simd.table.look_up_rows.Goals as goal

pub loop-row-preserved : goal.loop-row-preserved
loop-row-preserved c = grind usual
