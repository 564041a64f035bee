-- The vectors have all of the bytes, and some after them.
use Rattle.ptflow.proofs
use proofs.Common.{arith}
use Rattle.ptlines.proofs.CopyFacts.{copied_prefix}
use proofs.PasteLemmas.BufferedRows.{vector_copied}
use proofs.tools.paste.buffered_rows.copy_vectors.Goals as goal

pub vectors-preserved : goal.vectors-preserved
vectors-preserved c = record {
  so_far = vector_copied _ _ _ _ _ _ c.vectors.invariant.so_far c.copy_vector-in-vectors.ensures;
  size_bound = omega arith;
  buffer_size = c.copy_vector-in-vectors.array_long;
}

pub returns : goal.returns
returns c = copied_prefix _ _ _ _ _ _ (omega arith) (omega arith) c.vectors.invariant.so_far
