-- Each iteration adds the 64 bytes that `replace_chunk` copied.
use Rattle.ptflow.proofs
use proofs.Common.{arith}
use proofs.PasteLemmas.Replaced.{replaced_more}
use proofs.simd.replace.Cycle.replace_chunks.Goals as goal

pub loop-at-preserved : goal.loop-at-preserved
loop-at-preserved c =
    let made = c.replace_chunk-index.ensures in
    replaced_more made.long c.loop-at.invariant 64 (omega arith) made.next made.replaced
