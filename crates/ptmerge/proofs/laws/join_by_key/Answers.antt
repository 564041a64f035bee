-- Lines distributed over parts by their join fields.
use Rattle.ptmerge.proofs
use proofs.Parts.{join_of_keys}
use proofs.laws.join_by_key.Goals as goal

pub returns : goal.returns
returns c = join_of_keys
