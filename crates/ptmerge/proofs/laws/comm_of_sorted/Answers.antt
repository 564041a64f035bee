-- The output of `comm` for two sorted texts.
use Rattle.ptmerge.proofs
use proofs.OutputLaws.Sorted.{comm_of_sorted}
use proofs.laws.comm_of_sorted.Goals as goal

pub returns : goal.returns
returns c = comm_of_sorted
