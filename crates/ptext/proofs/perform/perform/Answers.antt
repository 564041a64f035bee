-- Answers for `perform`: standard output is returned unchanged unless the words mean a command that writes to it,
-- and the run has the postcondition `PerformPost`. Both are lemmas of `Performed`.
use Rattle.ptext.proofs.Performed.{out_is_unused, performed}
use Rattle.ptext.proofs.perform.perform.Goals as goal

pub returns-clause-out_unchanged : goal.returns-clause-out_unchanged
returns-clause-out_unchanged g c not_standard = out_is_unused not_standard c.run_over_files.ensures

pub returns-clause-performed : goal.returns-clause-performed
returns-clause-performed g c = performed c.new-files.ensures c.empty-store.ensures c.run_over_files.ensures
