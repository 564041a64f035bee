-- A lane gets the shift of the range if its byte is in it, and else 0.
use Rattle.ptflow.proofs
use proofs.Common.{◌+◌, ◌-◌, ◌%◌}
use Rattle.std.proofs.lemmas.Simd.{splat_is_map, zip2_splat}
use proofs.Vectors.Lanes.{sel_maps, tests_are}
use proofs.simd.shift.ShiftRange.deltas16.Goals as goal

pub returns : goal.returns
returns c =
    let v = c.args.v in
    let (long, _) = c.fits-v in
    sel_maps _ _ _ v (tests_are _ _ v _ long (zip2_splat (λ a b. (a + (256 - b)) % 256) v 16 _ long))
    (splat_is_map v 16 _ long) (splat_is_map v 16 0 long)
