-- What was looked up in the row of each lane, or the byte itself if it is in no row. The row is the distance from the
-- first byte, divided by 16.
use Rattle.ptflow.proofs
use proofs.Common.{◌/◌, ◌^◌, ◌+◌, ◌-◌, ◌%◌, ltb, zip2_of_maps, zip2_splat, splat_is_map}
use proofs.Vectors.Lanes.{tests_are, images_of}
use proofs.simd.table.TableMapByteMap.map16.Goals as goal

pub returns : goal.returns
returns g c =
    let v = c.args.v in
    let self = c.args.self in
    let (long, fit) = c.fits-v in
    let n = g.row.N in
    let offsets = zip2_splat (λ a b. (a + (256 - b)) % 256) v 16 _ long in
    let rows = zip2_of_maps (λ a b. a / 2 ^ b) _ _ v offsets (splat_is_map v 16 4 long) in
    images_of self.first n self.rows self.within self.size self.lanes v long fit _ _ offsets rows
    c.look_up_rows.ensures.found c.select_rows-found.ensures.lanes c.select_rows-found.ensures.selected
    (tests_are ltb _ v n long rows)
