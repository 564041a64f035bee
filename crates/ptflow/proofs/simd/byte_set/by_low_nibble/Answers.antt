-- The low nibbles are remainders by 16, so they are indices of the table.
use Rattle.ptflow.proofs
use proofs.Common.{◌%◌, arith}
use proofs.Vectors.Lanes.{nibbles_ok, looked_up, low_nibbles}
use proofs.simd.byte_set.by_low_nibble.Goals as goal

pub swizzle : goal.swizzle
swizzle c = nibbles_ok (λ b. b % 16) (λ b byte. omega arith) c.args.v (low_nibbles _ c.fits-v.0) c.fits-v

pub returns : goal.returns
returns c = looked_up (λ b. b % 16) (λ b byte. omega arith) c.args.v (low_nibbles _ c.fits-v.0) c.fits-v _
