-- A lane that is equal to the terminator gets the new byte, and the others are unchanged.
use Rattle.ptflow.proofs
use proofs.Common.{sym, eqb, splat_is_map}
use proofs.Vectors.Lanes.{sel_maps, tests_are, map-id}
use proofs.simd.replace.ReplaceTerminatorByteMap.map16.Goals as goal

pub returns : goal.returns
returns c =
    let v = c.args.v in
    let (long, _) = c.fits-v in
    sel_maps _ _ _ v (tests_are eqb _ v _ long (sym (map-id v))) (splat_is_map v 16 _ long)
    (sym (map-id v))
