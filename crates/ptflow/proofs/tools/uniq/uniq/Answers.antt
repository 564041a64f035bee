-- `uniq` is a line tool. Setting the terminator does not change the input, so the contract of `run_lines` carries over.
use Rattle.ptflow.proofs
use proofs.Common.{arith, refl, uniq_job}
use proofs.Passes.Exits.{pass_unchanged, pass_set}
use proofs.UniqLemmas.Runs.{uniq_line_tool}
use Rattle.ptflow.specs.declared.tools.uniq.LineUniq.{LineUniq}
use proofs.tools.uniq.uniq.Goals as goal

pub returns-in_err-terminator : goal.returns-in_err-terminator
returns-in_err-terminator g c = grind (arith, pass_unchanged)

pub run_lines-requires-clause-tool : goal.run_lines-requires-clause-tool
run_lines-requires-clause-tool g c = uniq_line_tool (uniq_job c.args.job.now) (λ (t : LineUniq). t.run) _ refl

pub returns : goal.returns
returns g c =
    let start = c.in_ok-terminator.ensures in
    pass_set _ c.run_lines.ensures start.set.1 start.set.0 refl start.clean
