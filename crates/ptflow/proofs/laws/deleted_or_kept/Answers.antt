-- Proved in `OutputLaws/Trs`.
use Rattle.ptflow.proofs
use proofs.OutputLaws.Trs.{deleted_or_kept}
use proofs.laws.deleted_or_kept.Goals as goal

pub returns : goal.returns
returns c = deleted_or_kept
