-- Lines distributed over parts by their keys.
use Rattle.ptmerge.proofs
use proofs.Parts.{comm_of_keys}
use proofs.laws.comm_by_key.Goals as goal

pub returns : goal.returns
returns c = comm_of_keys
