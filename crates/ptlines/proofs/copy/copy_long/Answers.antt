-- `copy_long`: the bytes after the copied ones do not change.
use Rattle.ptlines.proofs
use proofs.Common.{usual}
use Rattle.std.proofs.lemmas.Slice.{drop-put_mid}
use proofs.copy.copy_long.Goals as goal

pub returns-clause-rest : goal.returns-clause-rest
returns-clause-rest c = grind (usual, drop-put_mid)
