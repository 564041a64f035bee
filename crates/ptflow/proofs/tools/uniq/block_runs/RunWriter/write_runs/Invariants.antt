-- The lines before `rest` were processed, and the output of the runs that ended was pushed, but for the deferred part.
use Rattle.ptflow.proofs
use proofs.Common.{length, uniq_job}
use proofs.UniqLemmas.Runs.{RunsInvariant}
use proofs.tools.uniq.block_runs.RunWriter.write_runs.Given as goal

abbrev pub invariant-lines : goal.invariant-lines
invariant-lines g l =
    RunsInvariant (uniq_job l.job) l.fn.first l.block l.rest l.carried l.count l.line l.pending l.run_key l.fn.out l.out

abbrev pub decreases-lines : goal.decreases-lines
decreases-lines g l = length l.rest
