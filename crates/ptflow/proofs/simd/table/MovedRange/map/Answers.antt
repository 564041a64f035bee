-- Each iteration stores the images of 16 bytes. A byte out of the rows is its own image.
use Rattle.ptflow.proofs
use proofs.Common.{usual, ◌*◌, ◌+◌, arith, length-chunk, refl}
use proofs.Vectors.Lanes.{filled_next, image_is}
use proofs.simd.table.MovedRange.map.Goals as goal

pub loop-row-preserved : goal.loop-row-preserved
loop-row-preserved g c = filled_next c.loop-row.invariant (omega arith) refl
    (length-chunk (c.min-first.result + 16 * c.loop-row.row) 16 c.args.images.now (omega arith))

pub returns : goal.returns
returns g c =
    let rows = c.loop-row.invariant in
    image_is c.min-first.result g.row.N c.loop-row.rows (omega arith) rows.long rows.lanes c.requires.moved
    (omega arith) (omega arith) (λ i few. rows.made i (omega (arith, few))) (omega arith)

pub loop-row-init : goal.loop-row-init
loop-row-init = grind usual
