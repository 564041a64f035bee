-- The number of lines that `join` writes.
use Rattle.ptmerge.proofs
use proofs.OutputLaws.Counts.{join_counts}
use proofs.laws.join_counts.Goals as goal

pub returns : goal.returns
returns c = join_counts
