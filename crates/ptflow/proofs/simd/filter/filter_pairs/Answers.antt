-- Each iteration appends what is kept of 64 bytes more.
use Rattle.ptflow.proofs
use proofs.Common.{arith}
use proofs.Vectors.Compress.{filter_piece}
use proofs.simd.filter.filter_pairs.Goals as goal

pub loop-at-preserved : goal.loop-at-preserved
loop-at-preserved g c =
    let made = c.filter64-count.ensures in
    record {
      kept = filter_piece c.loop-at.invariant.kept c.args.pairs.paired 64 (omega arith) made.end made.kept;
      few = omega arith;
    }
