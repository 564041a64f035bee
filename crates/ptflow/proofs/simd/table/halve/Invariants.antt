-- Of each pair before the index, the lanes were picked.
use Rattle.ptflow.proofs
use proofs.Common.{◌≡◌, length}
use proofs.Vectors.Lanes.{IsFilledTo, halved}
use proofs.simd.table.halve.Given as goal

abbrev pub invariant-loop-index : goal.invariant-loop-index
invariant-loop-index g l = record {
  size : length l.fn.found ≡ g.row.N;
  filled : IsFilledTo g.row.N (halved l.fn.rows l.fn.found l.fn.count) l.index l.kept;
}
