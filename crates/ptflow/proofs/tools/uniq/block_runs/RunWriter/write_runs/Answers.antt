-- A line with the key of the current run, and copies of it, add to its count. Any other line ends the run.
use Rattle.ptflow.proofs
use proofs.Common.{◌+◌, length, refl, ap, arith, length-append, length-drop, take_rest, line_if_not_found, ◌∙◌}
use proofs.Common.{take_all, uniq_job, usual, rules, take_at}
use Rattle.ptflow.specs.Uniqs.{key}
use proofs.Passes.Exits.{on_err, wrote_then}
use proofs.UniqLemmas.Runs.{RunsInvariant, runs_loop_starts, runs_loop_few, runs_loop_next, all_lines, runs_loop_failed}
use proofs.UniqLemmas.Runs.{runs_loop_repeats, running_unended, passed_is, steps_written}
use proofs.tools.uniq.block_runs.RunWriter.write_runs.Given as given
use proofs.tools.uniq.block_runs.RunWriter.write_runs.Goals as goal
use Rattle.ptflow.proofs.tools.uniq.block_runs.RunWriter.write_runs.Goals.{After-skip_repeats-repeats}

pub lines-init : goal.lines-init
lines-init g c =
    let job = uniq_job c.args.self.now.job.now in
    let first = c.args.first.now in
    runs_loop_starts job _ _ (omega arith)
    (c.key-run_key.ensures ∙ ap (key job) (take_all (length first) first (omega arith))) _

after : (g : given.Over) (c : After-skip_repeats-repeats g)
    → RunsInvariant (uniq_job c.args.self.now.job.now) c.args.first.now c.args.block.now
    c.skip_repeats-repeats.result.rest.now c.args.carried (c.lines.count + (1 + c.skip_repeats-repeats.result.count))
    c.lines.line c.lines.pending c.lines.run_key.now c.args.out.now c.lines.out
after g c = runs_loop_repeats c.lines.invariant (rw c.args.self.now.ends at c.in-Some.ensures) c.key-next.ensures
    c.is_equal.ensures c.if-is_equal.true _ c.skip_repeats-repeats.ensures

pub overflow_add-count : goal.overflow_add-count
overflow_add-count g c = omega (arith, runs_loop_few (after g c))

pub overflow_add-count-then-is_equal : goal.overflow_add-count-then-is_equal
overflow_add-count-then-is_equal g c = omega (arith, runs_loop_few (after g c))

pub lines-smaller-then-is_equal : goal.lines-smaller-then-is_equal
lines-smaller-then-is_equal g c = grind (arith, (ap length c.skip_repeats-repeats.ensures), length-append, length-drop)

pub lines-preserved-then-is_equal : goal.lines-preserved-then-is_equal
lines-preserved-then-is_equal g c = after g (goal.at.lines-preserved-then-is_equal g c).After-skip_repeats-repeats

pub returns-in_err-pending-clause-halts : goal.returns-in_err-pending-clause-halts
returns-in_err-pending-clause-halts g c =
    on_err _
    (runs_loop_failed c.lines.invariant (rw c.args.self.now.ends at c.in-Some.ensures) c.key-next.ensures
    c.is_equal.ensures c.if-is_equal.false c.in_err-pending.ensures.wrote c.in_err-pending.ensures.fault)

pub lines-preserved : goal.lines-preserved
lines-preserved g c =
    rw take_rest (runs_loop_next c.lines.invariant (rw c.args.self.now.ends at c.in-Some.ensures) c.key-next.ensures
    c.is_equal.ensures c.if-is_equal.false c.in_ok-pending.ensures.waits refl refl)

pub overflow_sub-len : goal.overflow_sub-len
overflow_sub-len g c = grind usual

pub returns-in_err-push-clause-halts : goal.returns-in_err-push-clause-halts
returns-in_err-push-clause-halts g c =
    on_err _ (running_unended c.lines.invariant (search (rules, line_if_not_found)) c.push.ensures.pushed.wrote
    c.in_err-push.ensures.pushed.fault)

pub returns-clause-continues : goal.returns-clause-continues
returns-clause-continues g c =
    let wrote = c.push.ensures.pushed.wrote in
    steps_written c.lines.invariant.steps
    (rw c.lines.invariant.waits.all at (wrote_then _ _ _ c.lines.invariant.waits.wrote wrote))
    (all_lines c.lines.invariant (search (rules, line_if_not_found)) wrote)
    (λ _. c.in_ok-push.ensures.pushed.clean)

pub returns-clause-passed : goal.returns-clause-passed
returns-clause-passed g c = (
  omega arith,
  grind (
    arith,
    all_lines c.lines.invariant (search (rules, line_if_not_found)) c.push.ensures.pushed.wrote,
    passed_is,
    take_at,
  ),
)

pub overflow_add-at : goal.overflow_add-at
overflow_add-at g c = grind usual

pub overflow_sub-from : goal.overflow_sub-from
overflow_sub-from g c = grind usual

pub overflow_sub-from-else-is_equal : goal.overflow_sub-from-else-is_equal
overflow_sub-from-else-is_equal g c = grind usual

pub overflow_sub-to : goal.overflow_sub-to
overflow_sub-to g c = grind usual

pub overflow_add-rest : goal.overflow_add-rest
overflow_add-rest g c = grind usual
