-- The two inputs exchanged.
use Rattle.ptmerge.proofs
use proofs.OutputLaws.Columns.{comm_swapped}
use proofs.laws.comm_swapped.Goals as goal

pub returns : goal.returns
returns c = comm_swapped
