-- The lanes in the set get the one byte, and the others are unchanged.
use Rattle.ptflow.proofs
use proofs.Common.{sym, splat_is_map, set_has, map}
use proofs.Vectors.Lanes.{sel_maps, map-id, lanes_of_mask, tops_of_lanes}
use proofs.tools.tr.map_kind.MapSetToByteByteMap.map16.Goals as goal

pub returns : goal.returns
returns c =
    let v = c.args.v in
    let set_map = c.args.self in
    sel_maps _ _ _ v (cc (lanes_of_mask (set_has set_map.set) v, tops_of_lanes (map (set_has set_map.set) v)))
    (splat_is_map v 16 _ c.fits-v.0) (sym (map-id v))
