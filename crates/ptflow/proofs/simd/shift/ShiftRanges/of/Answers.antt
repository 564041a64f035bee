-- Each iteration adds the range of one more stretch. At the end the ranges add to each byte what the stretches add.
use Rattle.ptflow.proofs
use proofs.Common.{usual, length-set, arith}
use proofs.Vectors.Lanes.{one_stretch_more}
use proofs.simd.shift.ShiftRanges.of.Goals as goal

pub loop-index-preserved : goal.loop-index-preserved
loop-index-preserved g c =
    let loop = c.loop-index in record {
      long = simp length-set loop.invariant.long;
      added = λ b byte.
          one_stretch_more loop.ranges c.args.shifts.now loop.index _ b (omega arith)
          (loop.invariant.added b byte) (cc (c.of.ensures b byte));
    }

pub returns : goal.returns
returns g c = λ b byte. grind (usual, c.loop-index.invariant.added b byte)
