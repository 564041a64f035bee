-- The high nibbles are quotients by 16, so they are indices of the table.
use Rattle.ptflow.proofs
use proofs.Common.{◌/◌, ◌^◌, arith, zip2_splat}
use proofs.Vectors.Lanes.{nibbles_ok, looked_up}
use proofs.simd.byte_set.by_high_nibble.Goals as goal

pub swizzle : goal.swizzle
swizzle c = nibbles_ok (λ b. b / 16) (λ b byte. omega arith) c.args.v
    (zip2_splat (λ a b. a / 2 ^ b) _ 16 4 c.fits-v.0) c.fits-v

pub returns : goal.returns
returns c = looked_up (λ b. b / 16) (λ b byte. omega arith) c.args.v
    (zip2_splat (λ a b. a / 2 ^ b) _ 16 4 c.fits-v.0) c.fits-v _
