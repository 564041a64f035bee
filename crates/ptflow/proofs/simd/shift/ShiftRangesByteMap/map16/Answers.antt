-- Each iteration adds to the 16 images what one more range adds to the bytes.
use Rattle.ptflow.proofs
use proofs.Common.{usual, zip2_of_maps, ◌%◌, ◌+◌, ◌∙◌}
use proofs.simd.shift.ShiftRangesByteMap.map16.Goals as goal

pub loop-index-preserved : goal.loop-index-preserved
loop-index-preserved g c =
    zip2_of_maps (λ a b. (a + b) % 256) _ _ c.args.v c.loop-index.invariant c.deltas16-images.ensures ∙ grind usual
