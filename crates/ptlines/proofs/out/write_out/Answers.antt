-- Each call of `put` accepts the first bytes of the rest, so those accepted and the new rest are still all bytes.
use Rattle.ptlines.proofs
use proofs.Common.{take, usual}
use proofs.KnownBytes.{append_known-append}
use proofs.out.write_out.Goals as goal

pub loop-rest-preserved : goal.loop-rest-preserved
loop-rest-preserved g c = grind (usual, take, append_known-append)
