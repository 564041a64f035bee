-- The output of `join` for two sorted texts.
use Rattle.ptmerge.proofs
use proofs.OutputLaws.Sorted.{join_of_sorted}
use proofs.laws.join_of_sorted.Goals as goal

pub returns : goal.returns
returns c = join_of_sorted
