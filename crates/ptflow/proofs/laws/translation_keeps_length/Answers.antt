-- Proved in `OutputLaws/Trs`.
use Rattle.ptflow.proofs
use proofs.OutputLaws.Trs.{translation_keeps_length}
use proofs.laws.translation_keeps_length.Goals as goal

pub returns : goal.returns
returns c = translation_keeps_length
