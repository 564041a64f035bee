-- The vector that is stored begins with the slice.
use Rattle.ptflow.proofs
use proofs.Common.{arith, length-chunk, take_more_put_chunk, copied_prefix}
use proofs.tools.cut.fields.copy_slice.Goals as goal

pub returns-then-bytes-start-ge32-clause-copied : goal.returns-then-bytes-start-ge32-clause-copied
returns-then-bytes-start-ge32-clause-copied c =
    copied_prefix _ _ 32 _ _ _ (omega arith) (omega arith)
    (take_more_put_chunk _ _ _ _ (omega (arith, length-chunk c.args.slice.start 32 c.args.bytes.now)) (omega arith))
