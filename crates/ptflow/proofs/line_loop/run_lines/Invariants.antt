-- The lines read and the items written so far, for the same job.
use Rattle.ptflow.proofs
use proofs.Common.{◌≡◌, budget}
use proofs.Passes.LineLoop.{LineLoopState}
use proofs.line_loop.run_lines.Given as goal

abbrev pub invariant-reading : goal.invariant-reading
invariant-reading g l =
    let T = g.T.LineFilter in
    let job = T.job l.fn.tool in record {
      same_job : T.job l.tool ≡ job;
      run : LineLoopState T.model (T.rest job) (T.written job) T.counted (T.tool job).end T.SLOTS l.fn.tool
          (T.model l.tool l.store) l.fn.reader l.reader l.fn.out l.out l.fn.store l.store;
    }

abbrev pub decreases-reading : goal.decreases-reading
decreases-reading g l = budget l.reader
