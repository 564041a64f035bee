-- A run without output pushes nothing. Any other one is pushed in two parts, and a failed push leaves a prefix.
use Rattle.ptflow.proofs
use proofs.Common.{◌∙◌, sym, push_past_failure, uniq_job, rules}
use proofs.Passes.Exits.{push_failed, wrote_then}
use proofs.UniqLemmas.Runs.{current_run_is}
use proofs.tools.uniq.block_runs.RunWriter.write_run.Goals as goal

pub returns-then-not-has_output : goal.returns-then-not-has_output
returns-then-not-has_output g c =
    let job = uniq_job c.args.self.now.job.now in
    rw (current_run_is job _, sym c.has_output.ensures ∙ c.if-not-has_output.true) c.push.ensures.pushed

pub returns-in_err-flush_with_count : goal.returns-in_err-flush_with_count
returns-in_err-flush_with_count g c = rw (current_run_is _ _) (search (rules, push_failed, push_past_failure))

pub returns : goal.returns
returns g c =
    let job = uniq_job c.args.self.now.job.now in
    rw (current_run_is job _, sym c.has_output.ensures ∙ c.if-not-has_output.false)
    (let pushed = rw c.args.self.now.ends at c.push_line.ensures.pushed in record {
      wrote = wrote_then _ _ _ c.flush_with_count.ensures.wrote pushed.wrote;
      clean = pushed.clean;
      fault = pushed.fault;
    })
