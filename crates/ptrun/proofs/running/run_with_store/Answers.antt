-- The tool of these two arms is that of the command that the words mean.
use Rattle.ptrun.proofs
use proofs.Common.{arith, command_view, false, ◌≡◌}
use proofs.RunEnds.{spec_of_meant}
use proofs.running.run_with_store.Goals as goal

pub returns-in-Paste-2-clause-run : goal.returns-in-Paste-2-clause-run
returns-in-Paste-2-clause-run g c words is =
    let parallel : c.in-Paste-2.job.serial ≡ false = grind arith in
    rw (spec_of_meant words (command_view c.args.command.now) is, c.in-Paste-2.is, parallel) c.run_together.ensures.run

pub returns-in-Uniq-clause-run : goal.returns-in-Uniq-clause-run
returns-in-Uniq-clause-run g c words is =
    rw (spec_of_meant words (command_view c.args.command.now) is, c.in-Uniq.is) c.run_together-in-Uniq.ensures.run
