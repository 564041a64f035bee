-- Proved in `OutputLaws/Cuts`.
use Rattle.ptflow.proofs
use proofs.OutputLaws.Cuts.{cut_after_paste}
use proofs.laws.cut_after_paste.Goals as goal

pub returns : goal.returns
returns c = cut_after_paste
