-- The vector that is stored has the 16 bytes.
use Rattle.ptflow.proofs
use proofs.Common.{arith, length-chunk, take_more_put_chunk}
use proofs.tools.paste.buffered_rows.copy_vector.Goals as goal

pub returns : goal.returns
returns c =
    take_more_put_chunk _ _ _ _ (omega (arith, length-chunk c.args.from 16 c.args.bytes.now (omega arith)))
    (omega arith)
