-- Proved in `OutputLaws/Uniqs`.
use Rattle.ptflow.proofs
use proofs.OutputLaws.Uniqs.{repeated_or_single}
use proofs.laws.repeated_or_single.Goals as goal

pub returns : goal.returns
returns c = repeated_or_single
