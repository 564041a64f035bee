-- The lines of the first input in two columns.
use Rattle.ptmerge.proofs
use proofs.OutputLaws.Counts.{comm_shares_first}
use proofs.laws.comm_shares_first.Goals as goal

pub returns : goal.returns
returns c = comm_shares_first
