-- The mask of the lanes that are equal to what they are compared with.
use Rattle.ptflow.proofs
use proofs.Common.{chunk, eqb, arith, mask_l-mod, tops_compared, w8}
use proofs.Vectors.Compress.{pairs_long}
use proofs.simd.filter.Pairs.same16.Goals as goal

pub returns : goal.returns
returns c =
    let pairs = c.args.self in
    let bytes = chunk c.args.at 16 pairs.bytes.now in
    rw (tops_compared w8 eqb _ _)
    (mask_l-mod _ 64 (omega (arith, pairs_long eqb _ _ pairs.paired _ 16 c.requires)))
