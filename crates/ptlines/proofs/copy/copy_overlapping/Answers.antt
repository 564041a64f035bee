-- `copy_overlapping`: the two vectors together copy all bytes, and change none after these.
use Rattle.ptlines.proofs
use Rattle.std.proofs.Common.{arith}
use proofs.CopyFacts.{behind_both, copied_ends}
use proofs.copy.copy_overlapping.Goals as goal

pub returns-clause-copied : goal.returns-clause-copied
returns-clause-copied g c = grind (arith, copied_ends)

pub returns-clause-rest : goal.returns-clause-rest
returns-clause-rest g c = grind (arith, behind_both)
