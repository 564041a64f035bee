-- Answers for `Segment::byte`: an index within a range or a class can be counted up, as both have at most 256 bytes.
use Rattle.ptlangs.proofs
use proofs.Common.{arith}
use proofs.TrArrays.{class_bytes-short, length-span, room}
use proofs.tr.segments.Segment.byte.Goals as goal

pub returns-in-Range-clause-room : goal.returns-in-Range-clause-room
returns-in-Range-clause-room c = room _ c.args.index _ c.span_get.ensures (grind (arith, length-span))

pub returns-in-Class-clause-room : goal.returns-in-Class-clause-room
returns-in-Class-clause-room c = room _ c.args.index _ c.get.ensures (grind (arith, class_bytes-short))
