-- The lowest bit of a lane's row picks one of two vectors, so a lane has in half its row what it had in its row before.
use Rattle.ptflow.proofs
use proofs.Common.{◌/◌, arith, get_or}
use proofs.Vectors.Lanes.{halved_next, halved_lane}
use proofs.simd.table.halve.Goals as goal

pub loop-index-preserved : goal.loop-index-preserved
loop-index-preserved g c =
    let loop = c.loop-index in
    record {
      size = loop.invariant.size;
      filled = halved_next _ _ c.args.count c.fits-rows.0 c.requires.lanes (omega arith)
          loop.invariant.filled (omega arith) (omega arith) c.min.ensures;
    }

pub returns-clause-kept : goal.returns-clause-kept
returns-clause-kept g c lane low within =
    rw (c.loop-index.invariant.filled.made (get_or c.args.rows lane 0 / 2) (omega arith))
    (halved_lane _ _ c.args.count c.fits-rows.0 c.requires.lanes (omega arith) _ low within)
