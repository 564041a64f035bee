-- A match in a chunk is the first one, as the chunks before it have none.
use Rattle.ptlines.proofs
use proofs.Common.{arith}
use proofs.scan.find_byte.Goals as goal

pub returns-in-Some : goal.returns-in-Some
returns-in-Some g c = grind arith

pub chunks-preserved : goal.chunks-preserved
chunks-preserved g c = grind arith
