-- All 16 bytes are stored, and the first `len` of them are what was appended.
use Rattle.ptflow.proofs
use proofs.Common.{arith, take_more_put_chunk, take_all, usual}
use Rattle.ptlines.proofs.CopyFacts.{copied_prefix}
use proofs.tools.paste.segments.Segment.copy_bytes.Goals as goal

pub returns-clause-copied : goal.returns-clause-copied
returns-clause-copied c =
    copied_prefix _ _ 16 _ _ _ (omega arith) c.requires.few
    (grind (usual, take_more_put_chunk, take_all))
