-- The rows before that of this line are written. The lines that are left decrease.
use Rattle.ptmerge.proofs
use proofs.Common.{First, length}
use Rattle.ptmerge.specs.Private.BlockLines.{further_lines, key_lines, row}
use proofs.RowLemmas.{EachWritten}
use proofs.merging.block_merge.write_rows.Given as goal

abbrev pub invariant-lines : goal.invariant-lines
invariant-lines g l =
    let tool = g.T.MergeWriter.tool l.tool in
    EachWritten l.terminator (λ x. row tool.entries l.key x (key_lines l.terminator l.seconds)) (tool.key First) l.key
    l.firsts l.one l.fn.out l.out

abbrev pub decreases-lines : goal.decreases-lines
decreases-lines g l = length (further_lines l.terminator l.one)
