-- The next line is the first complete one of the bytes.
use Rattle.ptmerge.proofs
use proofs.Common.{◌<◌, arith, usual}
use proofs.BlockLemmas.{next_of_key}
use proofs.merging.block_lines.KeyLines.next.Goals as goal

pub returns : goal.returns
returns c =
    let some : 0 < c.args.self.more = grind arith in
    grind (usual, next_of_key _ _ _ _ some c.in_ok-end.ensures)
