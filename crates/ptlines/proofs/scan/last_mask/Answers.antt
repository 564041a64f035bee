-- The bytes are all that there are, or the last of 64.
use Rattle.ptlines.proofs
use proofs.Common.{◌-◌, arith, length, take_rest}
use proofs.MatchMasks.{last_of_64}
use proofs.scan.last_mask.Goals as goal

pub returns-then-bytes-lt64 : goal.returns-then-bytes-lt64
returns-then-bytes-lt64 g c = rw take_rest at c.masks_of.ensures.first

pub returns : goal.returns
returns g c =
    let bytes = c.args.bytes.now in
    last_of_64 (g.M.Needle.test c.args.needle) bytes c.args.at (length bytes - 64) _ (omega arith) (omega arith)
    c.mask_at.ensures
