-- Proved in `OutputLaws/Pastes`.
use Rattle.ptflow.proofs
use proofs.OutputLaws.Pastes.{paste_of_different}
use proofs.laws.paste_of_different.Goals as goal

pub returns : goal.returns
returns c = paste_of_different
