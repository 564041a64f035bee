-- Sorted lines and themselves.
use Rattle.ptmerge.proofs
use proofs.OutputLaws.Columns.{comm_of_itself}
use proofs.laws.comm_of_itself.Goals as goal

pub returns : goal.returns
returns c = comm_of_itself
