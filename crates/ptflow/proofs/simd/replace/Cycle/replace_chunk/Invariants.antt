-- The mask has the terminators that are still to be replaced.
use Rattle.ptflow.proofs
use proofs.Common.{◌%◌, slice_index_or}
use proofs.PasteLemmas.Replaced.{ReplaceInvariant}
use proofs.simd.replace.Cycle.replace_chunk.Given as goal

abbrev pub invariant-loop-after : goal.invariant-loop-after
invariant-loop-after l = ReplaceInvariant l.terminator (λ n. slice_index_or l.self.unrolled (n % l.self.len) 0) l.index
    l.at l.from l.fn.to l.after l.mask l.to
