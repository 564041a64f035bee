-- The 16 images are stored after the bytes before the index.
use Rattle.ptflow.proofs
use proofs.Common.{arith, take_more_put_chunk}
use proofs.simd.shift.map_at.Goals as goal

pub returns-clause-stored : goal.returns-clause-stored
returns-clause-stored g c =
    let at = c.args.at in
    let (lanes, _) = c.fits-v in
    rw (← c.map16.ensures) (take_more_put_chunk at _ _ _ (omega arith) (omega arith))
