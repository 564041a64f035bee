-- `selected_files`: a value that names neither of the two files is the first fault of the option.
use Rattle.ptopts.proofs
use proofs.Common.{usual}
use proofs.command.join.selected_files.Goals as goal

pub returns-in-Some-clause-fault : goal.returns-in-Some-clause-fault
returns-in-Some-clause-fault c = grind usual
