-- A run whose line follows the deferred output joins it, as no count is written between them (`no_count`). Otherwise
-- that is pushed, and a failed push leaves a prefix of both.
use Rattle.ptflow.proofs
use proofs.Common.{ℕ, true, not, ◌≡◌, [], refl, push_past_failure, append_assoc, uniq_job, usual, push_nothing}
use proofs.Common.{append-nil, bytes_in_range, count_prefix}
use proofs.Passes.Exits.{on_err}
use proofs.UniqLemmas.Runs.{due_is, pending_joined, current_run_is}
use proofs.tools.uniq.block_runs.RunWriter.end_run.Goals as goal
use Rattle.ptlangs.specs.contracts.jobs.Show.{the_type}
use Rattle.ptlangs.specs.declared.jobs.Show.{Show}
use Rattle.ptlangs.specs.declared.jobs.Show.TheVariants.{All, Counts, Repeated, Single}
use denote.Enum.Bare.{sameb}

no_count : (show : Show) → true ≡ not (sameb the_type show Counts) → (count : ℕ) → count_prefix show count ≡ []
no_count All differs count = refl
no_count Counts differs count = cc
no_count Repeated differs count = refl
no_count Single differs count = refl

pub returns-then-not-has_output-clause-waits : goal.returns-then-not-has_output-clause-waits
returns-then-not-has_output-clause-waits g c =
    record {
      pushed = [];
      wrote = push_nothing _;
      all = grind (usual, current_run_is, append-nil);
      in_block = c.requires.pending_in;
    }

pub returns-then-pending-line-clause-waits : goal.returns-then-pending-line-clause-waits
returns-then-pending-line-clause-waits g c =
    pending_joined (uniq_job c.args.self.now.job.now) _ _ c.requires c.in-Some.is (cc) c.if-pending-line.true
    (no_count _ c.if-ne.ensures _)

pub returns-in_err-flush_with_count-clause-wrote : goal.returns-in_err-flush_with_count-clause-wrote
returns-in_err-flush_with_count-clause-wrote g c =
    on_err c.from_residual-in_err-flush_with_count.result
    (rw (due_is (uniq_job c.args.self.now.job.now) c.args.first.now c.args.run.count c.requires c.in-Some.is (cc))
    (rw append_assoc at (push_past_failure _ _ _ (bytes_in_range c.args.block.now c.in-Some.line)
    c.in_err-flush_with_count.ensures.fault c.flush_with_count.ensures.wrote)))

pub returns-clause-waits : goal.returns-clause-waits
returns-clause-waits g c = grind usual
