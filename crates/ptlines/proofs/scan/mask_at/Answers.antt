-- The lanes that are equal to one of the two bytes are those of the bytes that match.
use Rattle.ptlines.proofs
use proofs.Common.{chunk, length-chunk}
use proofs.MatchMasks.{either_mask}
use proofs.scan.mask_at.Goals as goal

pub returns : goal.returns
returns g c =
    let at = c.args.at in
    let bytes = c.args.bytes.now in
    either_mask (g.M.Needle.test c.args.needle) _ _ (chunk at g.row.N bytes) g.row.N c.bytes-first.ensures
    (length-chunk at g.row.N bytes c.requires.within) c.requires.lanes
