-- Proved in `OutputLaws/Uniqs`.
use Rattle.ptflow.proofs
use proofs.OutputLaws.Uniqs.{counts_add_up}
use proofs.laws.counts_add_up.Goals as goal

pub returns : goal.returns
returns c = counts_add_up
