-- A byte is one of two that are equal to it.
use Rattle.ptlines.proofs
use proofs.MatchMasks.{byte_twice}
use proofs.scan.U8Needle.bytes.Goals as goal

pub returns : goal.returns
returns c byte = byte_twice c.args.self byte
