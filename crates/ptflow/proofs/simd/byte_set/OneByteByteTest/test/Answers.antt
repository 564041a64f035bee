-- A set of one byte: a comparison of all lanes with it.
use Rattle.ptflow.proofs
use proofs.Vectors.Lanes.{compared_with}
use proofs.simd.byte_set.OneByteByteTest.test.Goals as goal

pub returns : goal.returns
returns c = compared_with _ _ c.fits-v.0
