-- At the end no byte is left, so what was stored is all that is kept.
use Rattle.ptflow.proofs
use proofs.Common.{arith}
use proofs.Vectors.Compress.{filter_done}
use proofs.simd.filter.filter_tail.Goals as goal

pub returns-clause-kept : goal.returns-clause-kept
returns-clause-kept g c = filter_done c.loop-at.invariant.kept (omega arith)
