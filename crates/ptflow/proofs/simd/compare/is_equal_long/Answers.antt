-- The bytes up to the current index are equal; the last 16 bytes reach back to them.
use Rattle.ptflow.proofs
use proofs.Common.{arith, take-add}
use proofs.Vectors.Equal.{ended}
use proofs.simd.compare.is_equal_long.Goals as goal

pub loop-at-preserved : goal.loop-at-preserved
loop-at-preserved c = record { same = grind (arith, take-add); within = omega arith }

pub returns : goal.returns
returns c =
    ended _ 16 _ _ _ _ c.requires.1 (omega arith) (omega arith) c.loop-at.invariant.same
    c.is_same_chunk-2.ensures
