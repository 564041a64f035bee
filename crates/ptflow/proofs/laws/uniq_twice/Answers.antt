-- Proved in `OutputLaws/Uniqs`.
use Rattle.ptflow.proofs
use proofs.OutputLaws.Uniqs.{uniq_twice}
use proofs.laws.uniq_twice.Goals as goal

pub returns : goal.returns
returns c = uniq_twice
