-- The rows so far were pushed; those left are the rows of the lines still to come. Each row takes a line.
use Rattle.ptflow.proofs
use proofs.Common.{sum_by, budget, shape_of}
use proofs.PasteLemmas.{RowsInvariant}
use proofs.tools.paste.paste.Given as goal

abbrev pub invariant-rows : goal.invariant-rows
invariant-rows g l = RowsInvariant (shape_of l.row) l.fn.readers l.initial.readers l.readers l.fn.out l.out l.fn.store
    l.store

abbrev pub decreases-rows : goal.decreases-rows
decreases-rows g l = sum_by budget l.readers
