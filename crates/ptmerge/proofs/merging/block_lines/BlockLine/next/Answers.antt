-- The line that `BlockLine::next` returns: the bytes up to the first terminator are the next line of the block.
use Rattle.ptmerge.proofs
use proofs.Common.{usual, refl}
use proofs.BlockLemmas.{line_in_block}
use proofs.merging.block_lines.BlockLine.next.Goals as goal

pub returns : goal.returns
returns g c = let n = line_in_block _ _ _ c.in_ok-size.ensures in
    record {
      bytes = grind usual;
      whole = n.whole;
      ordered = grind usual;
      same = grind usual;
      key_is = c.key-key.ensures;
      passed = refl;
    }
