-- `copy_chunk`: the stored vector has the bytes to be copied, and the bytes after it do not change.
use Rattle.ptlines.proofs
use proofs.Common.{arith, take_more_put_chunk, length-chunk}
use proofs.CopyFacts.{behind_chunk}
use proofs.copy.copy_chunk.Goals as goal

pub returns-clause-copied : goal.returns-clause-copied
returns-clause-copied g c = grind (arith, length-chunk, take_more_put_chunk)

pub returns-clause-rest : goal.returns-clause-rest
returns-clause-rest g c = grind (arith, length-chunk, behind_chunk)
