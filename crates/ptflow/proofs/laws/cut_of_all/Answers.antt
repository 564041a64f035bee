-- Proved in `OutputLaws/Cuts`.
use Rattle.ptflow.proofs
use proofs.OutputLaws.Cuts.{cut_of_all}
use proofs.laws.cut_of_all.Goals as goal

pub returns : goal.returns
returns c = cut_of_all
