-- A line with the key of the current run adds to its count. Any other line ends the run, whose output is pushed, and
-- becomes the first line of the next one by a swap of the two slots.
use Rattle.ptflow.proofs
use proofs.Common.{[], ◌∷◌, refl, sym, subst, usual, line, uniq_job, RunsWritten, current_run_of, run_of, push_nothing}
use proofs.Passes.Exits.{on_err}
use proofs.UniqLemmas.Runs.{steps_none, steps_more, steps_next, steps_written, steps_failed}
use proofs.tools.uniq.LineUniqLineFilter.process_line.Goals as goal

pub returns-then-is_same_run-clause-continues : goal.returns-then-is_same_run-clause-continues
returns-then-is_same_run-clause-continues g c =
    steps_written (steps_more (steps_none _ _) (line c.args.store.now 1) (grind usual)) (push_nothing _) refl
    (λ clean. clean)

pub returns-in_err-write_run-clause-halts : goal.returns-in_err-write_run-clause-halts
returns-in_err-write_run-clause-halts g c =
    on_err _ (steps_failed (steps_next (steps_none _ _) (line c.args.store.now 1) (grind usual))
    (rw c.first_line-2.ensures at c.write_run.ensures.wrote) [] refl c.in_err-write_run.ensures.fault)

pub returns-clause-continues : goal.returns-clause-continues
returns-clause-continues g c =
    let next = line c.args.store.now 1 in
    subst (λ l. RunsWritten (uniq_job c.args.self.now.writer.job.now)
    (current_run_of c.args.self.now.run c.args.store.now) (run_of l 1) (next ∷ []) c.args.out.now c.write_run.new.out)
    (sym (grind usual))
    (steps_written (steps_next (steps_none _ _) next (grind usual))
    (rw c.first_line-2.ensures at c.write_run.ensures.wrote) refl (λ _. c.in_ok-write_run.ensures.clean))
