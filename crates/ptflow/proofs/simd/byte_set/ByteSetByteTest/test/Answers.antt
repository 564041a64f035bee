-- What was looked up by the nibbles of a byte is its test (`tested`).
use Rattle.ptflow.proofs
use proofs.Common.{rules}
use proofs.Vectors.Lanes.{tested}
use proofs.simd.byte_set.ByteSetByteTest.test.Goals as goal

pub returns : goal.returns
returns c = search (rules, tested)
